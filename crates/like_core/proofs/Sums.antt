-- Sums of a function below a bound.
use Rattle.std.proofs.Common.{ℕ, zero, suc, ◌+◌, ◌<◌, ◌≤◌, inl, inr, arith, ap, refl, ◌≡◌}
use Rattle.std.proofs.Math.Nat.{le-suc_iff}
use Rattle.std.proofs.lemmas.Bool.{cases_eq}
use Rattle.like_core.specs.Functions.{sum_below, update}
use Rattle.like_core.proofs.Updates.{update-same, update-other}

-- one more term
pub sum_below-suc : (f : ℕ → ℕ) (n : ℕ) → sum_below f (n + 1) ≡ sum_below f n + f n
sum_below-suc f n = let e : n + 1 ≡ suc n = omega arith in ap (sum_below f) e

-- a sum of fewer terms is no larger
pub sum_below-mono : (f : ℕ → ℕ) (m n : ℕ) → m ≤ n → sum_below f m ≤ sum_below f n
sum_below-mono f m zero within = let e : m ≡ zero = omega arith in rw e (omega arith)
sum_below-mono f m (suc n) within =
    elim (le-suc_iff.0 within) [
      | inl below ↦ let before : sum_below f m ≤ sum_below f n = sum_below-mono f m n below in omega arith
      | inr same ↦ rw same (omega arith)
    ]

-- equal terms have an equal sum
pub sum_below-same : (f g : ℕ → ℕ) (n : ℕ) → ((i : ℕ) → i < n → f i ≡ g i) → sum_below f n ≡ sum_below g n
sum_below-same f g zero same = refl
sum_below-same f g (suc n) same =
    let before = sum_below-same f g n (λ i below. same i (omega arith)) in
    let here = same n (omega arith) in
    omega arith

-- smaller terms have a smaller sum
pub sum_below-le : (f g : ℕ → ℕ) (n : ℕ) → ((i : ℕ) → f i ≤ g i) → sum_below f n ≤ sum_below g n
sum_below-le f g zero each = omega arith
sum_below-le f g (suc n) each = let before = sum_below-le f g n each in let here = each n in omega arith

-- an update past the terms leaves their sum
pub sum_below-update_past : (f : ℕ → ℕ) (i x n : ℕ) → n ≤ i → sum_below (update f i x) n ≡ sum_below f n
sum_below-update_past f i x n past =
    sum_below-same (update f i x) f n (λ j below. update-other f i x j (λ same. absurd (omega arith)))

-- an update of one term changes the sum by as much
pub sum_below-update : (f : ℕ → ℕ) (i x n : ℕ) → i < n → sum_below (update f i x) n + f i ≡ sum_below f n + x
sum_below-update f i x zero within = absurd (omega arith)
sum_below-update f i x (suc n) within =
    elim (cases_eq n i) [
      | inl same ↦
          let before = sum_below-update_past f i x n (omega arith) in
          let here : update f i x n ≡ x = rw same (update-same f i x) in
          let term : f n ≡ f i = ap f same in
          omega arith
      | inr other ↦
          let before = sum_below-update f i x n (omega arith) in
          let here = update-other f i x n other in
          omega arith
    ]
