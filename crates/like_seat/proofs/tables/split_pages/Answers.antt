use Rattle.std.proofs.Common.{◌≡◌, ℕ, ◌<◌, ◌&&◌, ◌||◌, nat_lt, Bool, true, false, List, length, refl, sym, ap, subst, ◌∙◌, arith}
use Rattle.std.proofs.lemmas.Bool.{le-ltb, or_from, or_left, or_right}
use Rattle.like_core.specs.Phase.{is_hot, is_marked}
use Rattle.like_limits.specs.Buckets.{buckets}
use Rattle.like_tables.specs.SplitSlice.{IsSplitSlice, SplitSlice, has_split}
use Rattle.like_seat.specs.Kept.{is_split_in_run}
use Rattle.like_seat.proofs.Filling.{fill-may, fill-put, fill-skip, number-kept}
use Rattle.like_seat.proofs.tables.split_pages.Goals as goal
use Rattle.like_seat.proofs.tables.split_pages.Goals.{then-marks-page, then-marks-page-via-then-marks-page, then-marks-page-via-else-marks-page+then-is_hot, else-marks-page+else-is_hot}

-- neither
or_false : (a b : Bool) → a ≡ false → b ≡ false → (a || b) ≡ false
or_false a b e f = or_from a b e f

-- no page is below 0
none_below : (test : ℕ → Bool) (page : ℕ) → (nat_lt page 0 && test page) ≡ false
none_below test page = ap (λ b. b && test page) (le-ltb page 0 (omega arith))

pub loop-page-init : goal.loop-page-init
loop-page-init g c = record {
  slice = c.requires.unsplit.slice;
  factor = refl;
  counts = refl;
  splits = λ page. c.requires.unsplit.none page ∙ sym (none_below (is_split_in_run c.args.marks.now c.args.mask) page);
}

pub put-requires-clause-apart : goal.put-requires-clause-apart
put-requires-clause-apart g c =
    let i = c.loop-page.invariant in
    fill-may c.loop-page.slice i.slice (i.factor ∙ c.requires.unsplit.factor)
    (is_split_in_run c.args.marks.now c.args.mask) c.loop-page.page (omega (arith, c.requires.few)) i.splits

pub put-requires-clause-number : goal.put-requires-clause-number
put-requires-clause-number g c =
    let i = c.loop-page.invariant in
    number-kept c.args.slice.now c.loop-page.slice c.loop-page.page i.factor (ap (λ (xs : List ℕ). length xs) i.counts)
    (c.requires.numbers c.loop-page.page (omega arith))

pub loop-page-preserved : goal.loop-page-preserved
loop-page-preserved g c =
    let i = c.loop-page.invariant in
    let s = c.loop-page.slice in
    let k : ℕ = c.loop-page.page in
    let test : ℕ → Bool = is_split_in_run c.args.marks.now c.args.mask in
    let factor = i.factor ∙ c.requires.unsplit.factor in
    let small : k < buckets = omega (arith, c.requires.few) in
    elim c.if-marks-page.branch [
      | then-marks-page w ↦
          let split : test k ≡ true = elim w.then-marks-page.branch [
            | then-marks-page-via-then-marks-page w' ↦ or_left (is_marked c.args.marks.now k) _ w'.if-marks-page.true
            | then-marks-page-via-else-marks-page+then-is_hot w' ↦
                or_right (is_marked c.args.marks.now k) _ (sym w'.is_hot.ensures ∙ w'.if-is_hot.true)
          ] in
          let put = w.slice-is ∙ w.put.ensures.put in
          record {
            slice = subst IsSplitSlice (sym w.slice-is) w.put.ensures.slice;
            factor = ap (λ (x : SplitSlice). x.splits.factor) put ∙ i.factor;
            counts = ap (λ (x : SplitSlice). x.counts) put ∙ i.counts;
            splits = λ page. ap (λ (x : SplitSlice). has_split x page) put
                ∙ fill-put s i.slice factor test k small i.splits split page;
          }
      | else-marks-page+else-is_hot w ↦
          let plain : test k ≡ false =
          or_false (is_marked c.args.marks.now k) (is_hot c.args.mask k) w.if-marks-page.false (sym w.is_hot.ensures ∙ w.if-is_hot.false) in
          record {
            slice = subst IsSplitSlice (sym w.slice-is) i.slice;
            factor = ap (λ (x : SplitSlice). x.splits.factor) w.slice-is ∙ i.factor;
            counts = ap (λ (x : SplitSlice). x.counts) w.slice-is ∙ i.counts;
            splits = λ page. ap (λ (x : SplitSlice). has_split x page) w.slice-is
                ∙ fill-skip s i.slice factor test k small i.splits plain page;
          }
    ]
