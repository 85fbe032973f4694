-- A list that gets one more element.
use Rattle.std.proofs.Common.{◌≡◌, ℕ, List, [], ◌∷◌, ◌++◌, length, slice_get, Some, ap, sym, ◌∙◌, subst, arith, inl, inr}
use Rattle.std.proofs.lemmas.Bool.{cases_lt}
use Rattle.std.proofs.lemmas.List.{get_or_append_left, get_or_push, length_push}
use Rattle.std.proofs.lemmas.Option.{get_or_from_slice_get, slice_get-get_or, slice_get_within}

-- one more, at the next place
pub each-pushed : {A : Type 0} (P : ℕ → A → Type 0) (xs : List A) (y : A)
    → ((i : ℕ) (x : A) → slice_get xs i ≡ Some x → P i x)
    → P (length xs) y
    → (i : ℕ) (x : A) → slice_get (xs ++ y ∷ []) i ≡ Some x → P i x
each-pushed P xs y each last i x at = elim (cases_lt i (length xs)) [
  | inl below ↦ each i x
      (slice_get-get_or xs i y below
      ∙ ap Some (sym (get_or_append_left xs (y ∷ []) y i below) ∙ get_or_from_slice_get (xs ++ y ∷ []) i x y at))
  | inr past ↦
      let is : length xs ≡ i = omega (arith, past, slice_get_within (xs ++ y ∷ []) i x at, length_push xs y) in
      subst (λ n. P n x) is
      (subst (P (length xs)) (sym (get_or_push xs y y i is) ∙ get_or_from_slice_get (xs ++ y ∷ []) i x y at) last)
]
