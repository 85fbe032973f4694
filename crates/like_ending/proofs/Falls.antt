-- How the measure falls, by its numbers: T turns a phase, of which l are left; before and after a round, r and s are
-- left of the crew.
use Rattle.std.proofs.Common.{◌≡◌, ℕ, zero, suc, ◌+◌, ◌*◌, ◌-◌, ◌<◌, ◌≤◌, ap, arith}
use Rattle.std.proofs.Math.Nat.{mul-le-mul_left}

-- if less is left of the crew, its share falls by 2 T + 4
fall : (T r s : ℕ) → s + 1 ≤ r → (2 * T + 4) * s + (2 * T + 4) ≤ (2 * T + 4) * r
fall T r s less =
    let most : (2 * T + 4) * (s + 1) ≤ (2 * T + 4) * r = mul-le-mul_left (2 * T + 4) less in
    omega (arith, most)

same : (T r s : ℕ) → s ≤ r → (2 * T + 4) * s ≤ (2 * T + 4) * r
same T r s less = mul-le-mul_left (2 * T + 4) less

pub counts_joined : (T l r s : ℕ)
    → 0 < l
    → l ≤ T
    → s + 1 ≤ r
    → (2 * T + 4) * s + (T + 1 - (l - 1)) * (T + 3) + (T + 1) ≤ (2 * T + 4) * r + (T + 1 - l) * (T + 3)
counts_joined T l r s some most less =
    let one : T + 1 - (l - 1) ≡ T + 1 - l + 1 = omega arith in
    let more : (T + 1 - (l - 1)) * (T + 3) ≡ (T + 1 - l + 1) * (T + 3) = ap (λ n. n * (T + 3)) one in
    let falls = fall T r s less in
    by_rest (T + 1 - l) ((T + 1 - (l - 1)) * (T + 3)) more falls
  where
    by_rest : (m n : ℕ)
        → n ≡ (m + 1) * (T + 3)
        → (2 * T + 4) * s + (2 * T + 4) ≤ (2 * T + 4) * r
        → (2 * T + 4) * s + n + (T + 1) ≤ (2 * T + 4) * r + m * (T + 3)
    by_rest m n is falls = omega arith

pub stays_joined : (T rest r s : ℕ) → s + 1 ≤ r → (2 * T + 4) * s + rest + (T + 1) ≤ (2 * T + 4) * r + rest
stays_joined T rest r s less = let falls = fall T r s less in omega arith

pub answers_joined : (T out r s : ℕ)
    → out ≤ 1
    → s + out ≤ r
    → (2 * T + 4) * s + (T + 1) * (T + 2 + out) + (T + 1) ≤ (2 * T + 4) * r + (T + 1) * (T + 3)
answers_joined T zero r s most less = let falls = same T r s (omega (arith, less)) in omega arith
answers_joined T (suc n) r s most less =
    let none : n ≡ 0 = omega arith in
    let falls = fall T r s (omega arith) in
    let is : (T + 1) * (T + 2 + suc n) ≡ (T + 1) * (T + 2 + 1) = ap (λ k. (T + 1) * (T + 2 + suc k)) none in
    omega arith

pub releases_joined : (T r s : ℕ)
    → s ≤ r
    → (2 * T + 4) * s + (T + 1) * (T + 1) + (T + 1) ≤ (2 * T + 4) * r + (T + 1) * (T + 2)
releases_joined T r s less = let falls = same T r s less in omega arith

pub counts_split : (T l r s : ℕ)
    → 0 < l
    → s ≤ r
    → (2 * T + 4) * s + (T + 1) * (l - 1 + 1) + (T + 1) ≤ (2 * T + 4) * r + (T + 1) * (l + 1)
counts_split T l r s some less =
    let falls = same T r s less in
    let is : (T + 1) * (l - 1 + 1) ≡ (T + 1) * l = let one : l - 1 + 1 ≡ l = omega arith in ap (λ n. (T + 1) * n) one in
    omega arith

pub answers_split : (T r s : ℕ) → s ≤ r → (2 * T + 4) * s + 0 + (T + 1) ≤ (2 * T + 4) * r + (T + 1)
answers_split T r s less = let falls = same T r s less in omega arith

pub releases_split : (T r s : ℕ) → s + 1 ≤ r → (2 * T + 4) * s + (T + 3) + (T + 1) ≤ (2 * T + 4) * r + 0
releases_split T r s less = let falls = fall T r s less in omega arith
