-- A list whose elements make a step each, one after the other.
use Rattle.std.proofs.Common.{◌≡◌, ◌≢◌, ℕ, zero, suc, ◌+◌, ◌<◌, ◌≤◌, List, [], ◌∷◌, length, get_or, set, slice_get, Some, refl, sym, ap, ◌∙◌, subst, arith, inl, inr}
use Rattle.std.specs.List.{AllZip}
use Rattle.std.proofs.lemmas.Bool.{cases_eq}
use Rattle.std.proofs.lemmas.List.{get_or-set_other, get_or-set_same, length-set}
use Rattle.std.proofs.lemmas.Option.{get_or_from_slice_get}
use Rattle.like_crew.proofs.lists.Pairs.{pairs-from}

-- what stands at a place after a write
pub slice_get-set_same : {X : Type 0} (xs : List X) (i : ℕ) (y : X) → i < length xs → slice_get (set xs i y) i ≡ Some y
slice_get-set_same [] i y h = absurd (omega (arith, h))
slice_get-set_same (x ∷ xs) zero y h = refl
slice_get-set_same (x ∷ xs) (suc i) y h = slice_get-set_same xs i y (omega (arith, h))

pub slice_get-set_other : {X : Type 0} (xs : List X) (i j : ℕ) (y : X)
    → j ≢ i
    → slice_get (set xs i y) j ≡ slice_get xs j
slice_get-set_other [] i j y other = refl
slice_get-set_other (x ∷ xs) zero zero y other = absurd (other refl)
slice_get-set_other (x ∷ xs) zero (suc j) y other = refl
slice_get-set_other (x ∷ xs) (suc i) zero y other = refl
slice_get-set_other (x ∷ xs) (suc i) (suc j) y other = slice_get-set_other xs i j y (λ e. other (ap suc e))

-- the first elements of a list have made a step each, and the others are as they were
pub record Stepped {A : Type 0} (R : A → A → Type 0) (first now : List A) (n : ℕ) : Type 0 where
  pub len : length now ≡ length first
  pub done : (k : ℕ) (d e : A) → k < n → k < length first → R (get_or first k d) (get_or now k e)
  pub rest : (k : ℕ) → n ≤ k → slice_get now k ≡ slice_get first k

pub stepped-none : {A : Type 0} (R : A → A → Type 0) (xs : List A) → Stepped R xs xs 0
stepped-none R xs = record { len = refl; done = λ k d e below. absurd (omega (arith, below)); rest = λ k _. refl }

pub stepped-more : {A : Type 0} (R : A → A → Type 0) (first now : List A) (n : ℕ) (s t : A)
    → slice_get now n ≡ Some s
    → R s t
    → Stepped R first now n
    → Stepped R first (set now n t) (n + 1)
stepped-more R first now n s t at step h = record {
  len = length-set now n t ∙ h.len;
  done = λ k d e below there. elim (cases_eq k n) [
    | inl same ↦
        let was : get_or first k d ≡ s =
        ap (λ j. get_or first j d) same ∙ get_or_from_slice_get first n s d (sym (h.rest n (omega arith)) ∙ at) in
        let is : get_or (set now n t) k e ≡ t =
        ap (λ j. get_or (set now n t) j e) same ∙ get_or-set_same now n t e (omega (arith, there, same, h.len)) in
        subst (λ x. R x (get_or (set now n t) k e)) (sym was) (subst (R s) (sym is) step)
    | inr other ↦ subst (R (get_or first k d)) (sym (get_or-set_other now n k t e other))
        (h.done k d e (omega (arith, below, other)) there)
  ];
  rest = λ k over. slice_get-set_other now n k t (λ e. absurd (omega (arith, over, e)))
      ∙ h.rest k (omega (arith, over));
}

pub stepped-all : {A : Type 0} (R : A → A → Type 0) (first now : List A) (n : ℕ)
    → length first ≤ n
    → Stepped R first now n
    → AllZip R first now
stepped-all R first now n all h =
    pairs-from R first now h.len (λ k d e below. h.done k d e (omega (arith, below, all)) below)
