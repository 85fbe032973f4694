-- What is dealt to all workers sums up to what there is.
use Rattle.std.proofs.Common.{◌≡◌, ℕ, zero, suc, ◌+◌, ◌-◌, ◌<◌, List, [], ◌∷◌, sum_by, refl, ap, arith, add-zero, zero-add}
use Rattle.std.specs.List.{range_with_len}
use Rattle.std.proofs.lemmas.List.Sums.{sum_by-cons}
use Rattle.like_tables.specs.Share.{dealt}
use Rattle.like_ending.proofs.Sums.{sum_none}

-- a sum over numbers that are all one greater
sum-shift : (f g : ℕ → ℕ) → ((k : ℕ) → f (suc k) ≡ g k) → (a m : ℕ)
    → sum_by f (range_with_len (suc a) m) ≡ sum_by g (range_with_len a m)
sum-shift f g same a zero = refl
sum-shift f g same a (suc m) =
    let step : suc a + 1 ≡ suc (a + 1) = omega arith in
    let moved : sum_by f (range_with_len (suc a + 1) m) ≡ sum_by f (range_with_len (suc (a + 1)) m) =
    ap (λ n. sum_by f (range_with_len n m)) step in
    let others = sum-shift f g same (a + 1) m in
    let fs = sum_by-cons f (suc a) (range_with_len (suc a + 1) m) in
    let gs = sum_by-cons g a (range_with_len (a + 1) m) in
    let first = same a in
    omega arith

-- the last number of a range
sum-last : (g : ℕ → ℕ) (a m : ℕ)
    → sum_by g (range_with_len a (suc m)) ≡ sum_by g (range_with_len a m) + g (a + m)
sum-last g a zero =
    let one = sum_by-cons g a [] in
    let at : g (a + 0) ≡ g a = ap g (add-zero a) in
    omega arith
sum-last g a (suc m) =
    let others = sum-last g (a + 1) m in
    let whole = sum_by-cons g a (range_with_len (a + 1) (suc m)) in
    let before = sum_by-cons g a (range_with_len (a + 1) m) in
    let at : g ((a + 1) + m) ≡ g (a + suc m) = ap g (omega arith) in
    omega arith

pub deal-sum : {A : Type 0} (f : A → ℕ) (n : ℕ) (xs : List A)
    → 0 < n
    → sum_by (λ k. sum_by f (dealt n k xs)) (range_with_len 0 n) ≡ sum_by f xs
deal-sum f zero xs some = absurd (omega (arith, some))
deal-sum f (suc m) [] some =
    sum_none (λ k. sum_by f (dealt (suc m) k [])) (range_with_len 0 (suc m)) (λ k d there. refl)
deal-sum {A} f (suc m) (x ∷ xs) some =
    let now : ℕ → ℕ = λ k. sum_by f (dealt (suc m) k (x ∷ xs)) in
    let rest : ℕ → ℕ = λ k. sum_by f (dealt (suc m) k xs) in
    let whole : sum_by now (range_with_len 0 (suc m)) ≡ now 0 + sum_by now (range_with_len 1 m) =
    sum_by-cons now 0 (range_with_len 1 m) in
    let one : suc m - 1 ≡ m = omega arith in
    let first : now 0 ≡ f x + rest (suc m - 1) = sum_by-cons f x (dealt (suc m) (suc m - 1) xs) in
    let same : rest (suc m - 1) ≡ rest m = ap rest one in
    let shifted : sum_by now (range_with_len 1 m) ≡ sum_by rest (range_with_len 0 m) =
    sum-shift now rest (λ k. refl) 0 m in
    let last : sum_by rest (range_with_len 0 (suc m)) ≡ sum_by rest (range_with_len 0 m) + rest (0 + m) = sum-last rest 0 m in
    let end : rest (0 + m) ≡ rest m = ap rest (zero-add m) in
    let others : sum_by rest (range_with_len 0 (suc m)) ≡ sum_by f xs = deal-sum f (suc m) xs some in
    let all : sum_by f (x ∷ xs) ≡ f x + sum_by f xs = sum_by-cons f x xs in
    omega (arith, whole, first, same, shifted, last, end, others, all)
