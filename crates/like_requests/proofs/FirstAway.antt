-- The first element of a list of which a fact does not hold.
use Rattle.std.proofs.Common.{◌≡◌, ℕ, ◌+◌, ◌<◌, List, get_or, slice_get, Some, sym, subst, arith, inl, inr}
use Rattle.std.proofs.lemmas.Bool.{cases_lt}
use Rattle.std.proofs.lemmas.Option.{get_or_from_slice_get, slice_get_within}
use Rattle.like_records.specs.First.{IsFirstBad}

module _ {X : Type 0} (P : X → Type 0) (xs : List X) (at : ℕ) (x : X)
    (before : (k : ℕ) (d : X) → k < at → P (get_or xs k d)) (found : slice_get xs at ≡ Some x) where
  -- it holds of one more
  pub holds-more : P x → (k : ℕ) (d : X) → k < at + 1 → P (get_or xs k d)
  holds-more good k d below =
      elim (cases_lt k at) [
        | inl less ↦ before k d less
        | inr more ↦
            let same : k ≡ at = omega (arith, below, more) in
            subst (λ n. P (get_or xs n d)) (sym same) (subst P (sym (get_or_from_slice_get xs at x d found)) good)
      ]

  -- it does not hold of this one
  pub first-away : ¬ P x → IsFirstBad P xs at
  first-away bad = record {
    within = slice_get_within xs at x found;
    bad = λ d good. bad (subst P (get_or_from_slice_get xs at x d found) good);
    before = λ k d below. before k d below;
  }
