use Rattle.std.proofs.Common.{◌∙◌, ℕ, List, [], ap, arith, length, subst}
use Rattle.std.proofs.Math.Facts.{Fits-lt-pow}
use Rattle.std.proofs.lemmas.List.{length-map}
use Rattle.std.proofs.lemmas.Result.{IfOk-weaker}
use Rattle.like_promises.specs.Collected.{IsCollected, rows_of}
use Rattle.like_promises.specs.declared.log.Ran.{Ran}
use Rattle.like_collection.specs.Parts.{own_sizes}
use Rattle.like_collection.proofs.Parts.{ok-of, own_sizes-length, own_sizes-small}
use Rattle.like_collection.proofs.slots.Collecting.{IsCollected-held, short_rows}
use Rattle.like_collection.proofs.slots.Holding.{HoldsAll-start}
use Rattle.like_collection.proofs.collection.parts.part_of.Goals as goal

pub into_replies-requires-clause-few : goal.into_replies-requires-clause-few
into_replies-requires-clause-few c =
    let held = c.in_ok-put_all.ensures c.deref.result.now []
    (HoldsAll-start c.deref.result.now c.in_ok-slots.slots c.in_ok-slots.ensures) in
    omega (
      arith,
      c.requires.few,
      own_sizes-length c.args.workers c.args.worker c.args.sizes.now,
      ap (λ (ns : List ℕ). length ns) (c.deref.ensures.value ∙ c.in_ok-own.ensures),
      ap (λ (ns : List ℕ). length ns) held.sized,
      length-map c.put_all.new.self (λ row. length row),
    )

pub into_replies-requires-clause-short : goal.into_replies-requires-clause-short
into_replies-requires-clause-short c =
    let held = c.in_ok-put_all.ensures c.deref.result.now []
    (HoldsAll-start c.deref.result.now c.in_ok-slots.slots c.in_ok-slots.ensures) in
    let sizes : List ℕ = own_sizes c.args.workers c.args.worker c.args.sizes.now in
    short_rows sizes c.put_all.new.self (held.sized ∙ c.deref.ensures.value ∙ c.in_ok-own.ensures)
    (own_sizes-small c.args.workers c.args.worker c.args.sizes.now (λ k. Fits-lt-pow (c.type_inv.sizes k)))

pub returns : goal.returns
returns c =
    let held = c.in_ok-put_all.ensures c.deref.result.now []
    (HoldsAll-start c.deref.result.now c.in_ok-slots.slots c.in_ok-slots.ensures) in
    IfOk-weaker c.into_replies.result _ _
    (λ part full.
    subst (λ sizes. IsCollected sizes c.args.log.now.ran.items (rows_of part))
    (c.deref.ensures.value ∙ c.in_ok-own.ensures)
    (subst (λ (ran : List Ran). IsCollected c.deref.result.now ran (rows_of part)) c.deref-2.ensures.value
    (IsCollected-held c.deref.result.now c.deref-2.result.now c.put_all.new.self (rows_of part) held full)))
    (ok-of c.into_replies.result _ _ c.into_replies.ensures)
