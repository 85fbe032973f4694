use Rattle.std.proofs.Common.{◌≡◌, ◌+◌, ◌<◌, ◌++◌, ◌∷◌, [], ◌∙◌, ℕ, List, Ok, Err, ap, append-nil, arith, get_or, length, sym}
use Rattle.std.proofs.KnownBytes.{Appends-trans}
use Rattle.std.proofs.lemmas.Grind.{flat_map-append}
use Rattle.std.proofs.lemmas.List.{map-append, take_more}
use Rattle.std.proofs.lemmas.Result.{err_from_is_err_and}
use Rattle.std.specs.List.{flat_map}
use Rattle.like_replies.proofs.Begun.{begun-all, begun-last, told-after}
use Rattle.like_replies.proofs.report.sheets.write_all.Goals as goal

-- one more text
one_more : (texts : List (List ℕ)) (text : List ℕ)
    → flat_map (λ t. t) (texts ++ text ∷ []) ≡ flat_map (λ t. t) texts ++ text
one_more texts text =
    flat_map-append (λ t. t) texts (text ∷ []) ∙ ap (λ t. flat_map (λ u. u) texts ++ t) (append-nil text)

pub loop-sheet-preserved : goal.loop-sheet-preserved
loop-sheet-preserved g c =
    let k : ℕ = c.loop-sheet.sheet-index in
    let sheets = c.args.sheets.now in
    let there : k < length sheets = omega (arith, c.loop-sheet-test.true, c.loop-sheet.auto.sheet-index-end) in
    let texts : List (List ℕ) = c.loop-sheet.invariant.0 in
    let text : List ℕ = c.in-Ok.sheet in
    let last : get_or sheets k c.sheet-item.result ≡ Ok text = sym c.sheet-item.is ∙ c.in-Ok.is in (
      texts ++ text ∷ [],
      take_more sheets k c.sheet-item.result there
          ∙ rw (last, c.loop-sheet.invariant.1) (sym (map-append Ok texts (text ∷ []))),
      rw (one_more texts text) (Appends-trans _ _ _
          (flat_map (λ t. t) texts) text c.loop-sheet.invariant.2 c.in_ok-write-in-Ok.ensures.written),
      λ h. c.loop-sheet.invariant.3 (c.in_ok-write-in-Ok.ensures.told h),
    )

pub returns-in_err-write-in-Ok-clause-written : goal.returns-in_err-write-in-Ok-clause-written
returns-in_err-write-in-Ok-clause-written g c =
    let p = err_from_is_err_and c.from_residual.result c.from_residual.ensures.1 in
    let k : ℕ = c.loop-sheet.sheet-index in
    let sheets = c.args.sheets.now in
    let there : k < length sheets = omega (arith, c.loop-sheet-test.true, c.loop-sheet.auto.sheet-index-end) in
    let texts : List (List ℕ) = c.loop-sheet.invariant.0 in
    let text : List ℕ = c.in-Ok.sheet in
    let last : get_or sheets k c.sheet-item.result ≡ Ok text = sym c.sheet-item.is ∙ c.in-Ok.is in
    rw p.1 (
      texts ++ text ∷ [],
      k + 1,
      take_more sheets k c.sheet-item.result there
          ∙ rw (last, c.loop-sheet.invariant.1) (sym (map-append Ok texts (text ∷ []))),
      rw (one_more texts text) (begun-last _ _ _ (flat_map (λ t. t) texts) text c.loop-sheet.invariant.2
          c.in_err-write-in-Ok.ensures.written),
    )

pub returns-in_err-write-in-Ok-clause-told : goal.returns-in_err-write-in-Ok-clause-told
returns-in_err-write-in-Ok-clause-told g c =
    let p = err_from_is_err_and c.from_residual.result c.from_residual.ensures.1 in
    rw (p.1, p.2)
    (told-after {A = Unit {0}} g.W.Output.has_failed _ _ _ (Err c.in_err-write-in-Ok.field-0.0) c.loop-sheet.invariant.3
    c.in_err-write-in-Ok.ensures.told)

pub returns-in-Err-clause-written : goal.returns-in-Err-clause-written
returns-in-Err-clause-written g c = (
  c.loop-sheet.invariant.0,
  c.loop-sheet.sheet-index,
  c.loop-sheet.invariant.1,
  begun-all _ _ (flat_map (λ t. t) c.loop-sheet.invariant.0) c.loop-sheet.invariant.2,
)
