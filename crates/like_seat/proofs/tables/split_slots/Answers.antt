use Rattle.std.proofs.Common.{◌≡◌, ℕ, ◌<◌, true, false, List, length, refl, sym, ap, subst, ◌∙◌, slice_index, arith}
use Rattle.like_core.specs.Functions.{has_bit}
use Rattle.like_limits.specs.Limits.{hot_pages}
use Rattle.like_tables.specs.SplitSlice.{IsSplitSlice, SplitSlice, has_split}
use Rattle.like_seat.proofs.Filling.{number-kept, slot-may, slot-skips, slot-splits}
use Rattle.like_seat.proofs.tables.split_slots.Goals as goal
use Rattle.like_seat.proofs.tables.split_slots.Goals.{then-has_bit, else-has_bit}

pub loop-slot-init : goal.loop-slot-init
loop-slot-init g c = record {
  slice = c.requires.unsplit.slice;
  factor = refl;
  counts = refl;
  splits = λ page. (λ held. absurd (cc (held, c.requires.unsplit.none page)), λ i. absurd (omega (arith, i.below)));
}

pub put-requires-clause-apart : goal.put-requires-clause-apart
put-requires-clause-apart g c =
    slot-may c.args.slice.now c.loop-slot.slice (slice_index c.args.pages.now) c.args.used c.loop-slot.slot (omega arith)
    c.requires.apart c.loop-slot.invariant (sym c.has_bit.ensures ∙ c.if-has_bit.true)

pub put-requires-clause-number : goal.put-requires-clause-number
put-requires-clause-number g c =
    let i = c.loop-slot.invariant in
    number-kept c.args.slice.now c.loop-slot.slice (slice_index c.args.pages.now c.loop-slot.slot) i.factor
    (ap (λ (xs : List ℕ). length xs) i.counts)
    (c.requires.numbers c.loop-slot.slot (omega arith) (sym c.has_bit.ensures ∙ c.if-has_bit.true))

pub loop-slot-preserved : goal.loop-slot-preserved
loop-slot-preserved g c =
    let i = c.loop-slot.invariant in
    let s = c.loop-slot.slice in
    let k : ℕ = c.loop-slot.slot in
    let small : k < hot_pages = omega arith in
    let slots : ℕ → ℕ = slice_index c.args.pages.now in
    elim c.if-has_bit.branch [
      | then-has_bit w ↦
          let used : has_bit c.args.used k ≡ true = sym c.has_bit.ensures ∙ w.if-has_bit.true in
          let put = w.slice-is ∙ w.put.ensures.put in
          record {
            slice = subst IsSplitSlice (sym w.slice-is) w.put.ensures.slice;
            factor = ap (λ (x : SplitSlice). x.splits.factor) put ∙ i.factor;
            counts = ap (λ (x : SplitSlice). x.counts) put ∙ i.counts;
            splits = λ page.
                let is = slot-splits c.args.slice.now s slots c.args.used k small c.requires.apart i used page in
                let same = ap (λ (x : SplitSlice). has_split x page) put in
                (λ held. is.0 (sym same ∙ held), λ there. same ∙ is.1 there);
          }
      | else-has_bit w ↦
          let free : has_bit c.args.used k ≡ false = sym c.has_bit.ensures ∙ w.if-has_bit.false in
          record {
            slice = subst IsSplitSlice (sym w.slice-is) i.slice;
            factor = ap (λ (x : SplitSlice). x.splits.factor) w.slice-is ∙ i.factor;
            counts = ap (λ (x : SplitSlice). x.counts) w.slice-is ∙ i.counts;
            splits = λ page.
                let is = slot-skips c.args.slice.now s slots c.args.used k small c.requires.apart i free page in
                let same = ap (λ (x : SplitSlice). has_split x page) w.slice-is in
                (λ held. is.0 (sym same ∙ held), λ there. same ∙ is.1 there);
          }
    ]
