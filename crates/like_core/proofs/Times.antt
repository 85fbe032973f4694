-- How often a number is in a list.
use Rattle.std.proofs.Common.{◌≡◌, ◌≢◌, ℕ, ◌+◌, ◌==◌, inl, inr, cond, List, [], ◌∷◌, ◌++◌, ap, sym, ◌∙◌, refl, arith}
use Rattle.std.proofs.lemmas.Bool.{cases_eq, cond-true, cond-false, eq-eqb, ne_eqb}
use Rattle.std.proofs.lemmas.List.Sums.{sum_by-append, sum_by-cons}
use Rattle.like_core.specs.Functions.{update, times}
use Rattle.like_core.specs.core.State.{without}
use Rattle.like_core.proofs.Updates.{update-same, update-other}

-- a list that is joined to another adds what it has of each number
pub times-append : (x : ℕ) (xs ys : List ℕ) → times x (xs ++ ys) ≡ times x xs + times x ys
times-append x xs ys = sum_by-append (λ y. cond (y == x) 1 0) xs ys

-- one more number
pub times-cons : (x y : ℕ) (xs : List ℕ) → times x (y ∷ xs) ≡ cond (y == x) 1 0 + times x xs
times-cons x y xs = sum_by-cons (λ z. cond (z == x) 1 0) y xs

-- one more number x counts for x
pub times-cons_same : (x : ℕ) (xs : List ℕ) → times x (x ∷ xs) ≡ times x xs + 1
times-cons_same x xs =
    let one : cond {A = ℕ} (x == x) 1 0 ≡ 1 = cond-true (x == x) 1 0 (eq-eqb x x refl) in
    let more = times-cons x x xs in
    omega arith

-- one more number y counts for no other
pub times-cons_other : (x y : ℕ) (xs : List ℕ) → y ≢ x → times x (y ∷ xs) ≡ times x xs
times-cons_other x y xs other =
    let none : cond {A = ℕ} (y == x) 1 0 ≡ 0 = cond-false (y == x) 1 0 (ne_eqb y x other) in
    let more = times-cons x y xs in
    omega arith

-- a number that is put at the end of a list
pub times-push : (xs : List ℕ) (y x : ℕ) → times x (xs ++ y ∷ []) ≡ update (λ z. times z xs) y (times y xs + 1) x
times-push xs y x =
    elim (cases_eq x y) [
      | inl same ↦
          rw same
          (times-append y xs (y ∷ []) ∙
          (ap (λ n. times y xs + n) (times-cons_same y []) ∙ sym (update-same (λ z. times z xs) y (times y xs + 1))))
      | inr other ↦
          let apart : y ≢ x = λ e. other (sym e) in
          let joined = times-append x xs (y ∷ []) in
          let none = times-cons_other x y [] apart in
          let there = update-other (λ z. times z xs) y (times y xs + 1) x other in
          omega arith
    ]

-- no number x is left without x
pub times-without_same : (x : ℕ) (xs : List ℕ) → times x (without x xs) ≡ 0
times-without_same x [] = refl
times-without_same x (y ∷ ys) =
    elim (cases_eq y x) [
      | inl same ↦ rw (eq-eqb y x same) (times-without_same x ys)
      | inr other ↦ rw (ne_eqb y x other) (times-cons_other x y (without x ys) other ∙ times-without_same x ys)
    ]

-- other numbers are left
pub times-without_other : (x z : ℕ) (xs : List ℕ) → z ≢ x → times z (without x xs) ≡ times z xs
times-without_other x z [] apart = refl
times-without_other x z (y ∷ ys) apart =
    elim (cases_eq y x) [
      | inl same ↦
          let differs : y ≢ z = λ e. apart (sym e ∙ same) in
          rw (eq-eqb y x same) (times-without_other x z ys apart ∙ sym (times-cons_other z y ys differs))
      | inr other ↦ rw (ne_eqb y x other)
          (times-cons z y (without x ys)
          ∙ (ap (λ n. cond (y == z) 1 0 + n) (times-without_other x z ys apart) ∙ sym (times-cons z y ys)))
    ]

-- a list without a number
pub times-without : (xs : List ℕ) (y x : ℕ) → times x (without y xs) ≡ update (λ z. times z xs) y 0 x
times-without xs y x =
    elim (cases_eq x y) [
      | inl same ↦ rw same (times-without_same y xs ∙ sym (update-same (λ z. times z xs) y 0))
      | inr other ↦ times-without_other y x xs other ∙ sym (update-other (λ z. times z xs) y 0 x other)
    ]
