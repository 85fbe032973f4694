-- Products with the inverse of an odd number, and how the inverse is found bit by bit.
use Rattle.std.proofs.Common.{◌≡◌, ◌≢◌, ℕ, ◌+◌, ◌*◌, ◌/◌, ◌%◌, ◌^◌, ◌<◌, ◌≤◌, inl, inr, sym, ap, ◌∙◌, arith}
use Rattle.std.proofs.Math.Nat.{mod-eq_of_lt, mul_assoc, mul_comm, mul-one}
use Rattle.std.proofs.lemmas.Bool.{cases_eq}
use Rattle.std.proofs.lemmas.Nat.{div-add-mod', mod-mul-add, mul-mod_first, mul-mod_second, pow-add, pow_below}

-- a number times an odd one, times its inverse, is the number
pub times-undone : (d odd inverse M : ℕ) → odd * inverse % M ≡ 1 → d < M → d * odd * inverse % M ≡ d
times-undone d odd inverse M one small =
    ap (λ k. k % M) (mul_assoc d odd inverse) ∙ sym (mul-mod_second d (odd * inverse) M)
    ∙ ap (λ k. d * k % M) one ∙ ap (λ k. k % M) (mul-one d) ∙ mod-eq_of_lt small

-- and in the other order
pub undone-times : (d odd inverse M : ℕ) → odd * inverse % M ≡ 1 → d < M → d * inverse % M * odd % M ≡ d
undone-times d odd inverse M one small =
    mul-mod_first (d * inverse) odd M
    ∙ times-undone d inverse odd M (ap (λ k. k % M) (mul_comm inverse odd) ∙ one) small

-- where a product is 1 modulo a power, but not modulo twice the power, it is so with the power added to the inverse
next-bit : (odd inverse power : ℕ) → odd % 2 ≡ 1 → 1 < power → odd * inverse % power ≡ 1
    → odd * inverse % (2 * power) ≢ 1 → odd * (inverse + power) % (2 * power) ≡ 1
next-bit odd inverse power is_odd some one other =
    let k = odd * inverse / power in
    let all : k * power + 1 ≡ odd * inverse = omega (arith, div-add-mod' (odd * inverse) power, one) in
    elim (cases_eq (k % 2) 0) [
      | inl even ↦
          let twice : k ≡ 2 * (k / 2) = omega arith in
          absurd (other (ap (λ n. n % (2 * power)) (sym all ∙ halves k (k / 2) power twice)
          ∙ mod-mul-add (k / 2) (2 * power) 1 (omega arith)))
      | inr rest ↦
          let more : k ≡ 2 * (k / 2) + 1 = omega (arith, rest) in
          let odd_is : odd ≡ 2 * (odd / 2) + 1 = omega arith in
          ap (λ n. n % (2 * power)) (carried odd inverse power k (k / 2) (odd / 2) all more odd_is)
          ∙ mod-mul-add (k / 2 + odd / 2 + 1) (2 * power) 1 (omega arith)
    ]
  where
    halves : (k j power : ℕ) → k ≡ 2 * j → k * power + 1 ≡ j * (2 * power) + 1
    halves k j power twice =
        let turned : 2 * j * power + 1 ≡ j * (2 * power) + 1 = omega arith in
        ap (λ n. n * power + 1) twice ∙ turned

    carried : (odd inverse power k j h : ℕ) → k * power + 1 ≡ odd * inverse → k ≡ 2 * j + 1 → odd ≡ 2 * h + 1
        → odd * (inverse + power) ≡ (j + h + 1) * (2 * power) + 1
    carried odd inverse power k j h all more odd_is =
        let first : k * power ≡ (2 * j + 1) * power = ap (λ n. n * power) more in
        let second : odd * power ≡ (2 * h + 1) * power = ap (λ n. n * power) odd_is in
        omega arith

-- an inverse of so many bits
pub record IsInverse (odd number bits : ℕ) : Type 0 where
  pub below : number < 2 ^ bits
  pub one : odd * number % 2 ^ bits ≡ 1

-- one bit more, where the number is not enough
pub IsInverse-more : (odd number bits power : ℕ) → odd % 2 ≡ 1 → 1 ≤ bits → power ≡ 2 ^ bits → IsInverse odd number bits
    → odd * number % (2 * power) ≢ 1 → IsInverse odd (number + power) (bits + 1)
IsInverse-more odd number bits power is_odd some is k other =
    let next : 2 ^ (bits + 1) ≡ 2 * power = omega (arith, pow-add 2 bits 1, is) in
    let large : 1 < power = omega (arith, is, pow_below 0 bits some) in
    let one = ap (λ n. odd * number % n) is ∙ k.one in
    record {
      below = omega (arith, next, k.below, is);
      one = ap (λ n. odd * (number + power) % n) next ∙ next-bit odd number power is_odd large one other;
    }

-- and where it is
pub IsInverse-same : (odd number bits power : ℕ) → power ≡ 2 ^ bits → IsInverse odd number bits
    → odd * number % (2 * power) ≡ 1 → IsInverse odd number (bits + 1)
IsInverse-same odd number bits power is k enough =
    let next : 2 ^ (bits + 1) ≡ 2 * power = omega (arith, pow-add 2 bits 1, is) in
    record { below = omega (arith, next, k.below, is); one = ap (λ n. odd * number % n) next ∙ enough }
