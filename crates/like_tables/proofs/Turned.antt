-- A number whose bits are turned to the right.
use Rattle.std.proofs.Common.{◌≡◌, ℕ, ◌+◌, ◌-◌, ◌*◌, ◌/◌, ◌%◌, ◌^◌, ◌<◌, inl, inr, sym, ap, ◌∙◌, arith, w32, bit_or}
use Rattle.std.specs.Int.{rotate_right}
use Rattle.std.specs.Int.Bits.{or_self, or_zero_r}
use Rattle.std.proofs.Math.Nat.{lt_of_mul-lt-mul_right, mul-lt-mul_of_pos_right, mul-mod_left, mul_assoc, mul_comm, mul-one, zero-mul}
use Rattle.std.proofs.lemmas.Bool.{cases_eq}
use Rattle.std.proofs.lemmas.Nat.{div-add-mod', le_or_r, mod-mul-add, mod_below, pow-add, pow_pos, shl-shr}

-- the two parts of a word's bits
parts : (t s : ℕ) → t + s ≡ 32 → 2 ^ t * 2 ^ s ≡ 2 ^ 32
parts t s whole = sym (pow-add 2 t s) ∙ ap (λ k. 2 ^ k) whole

-- a turn by some bits: those that leave at the right come in at the left
turned-some : (n t s : ℕ) → t + s ≡ 32 → t < 32 → s < 32
    → rotate_right w32 n t ≡ bit_or (n / 2 ^ t) (n * 2 ^ s % 2 ^ 32)
turned-some n t s whole few some =
    let t_is : t % 32 ≡ t = omega arith in
    let s_is : (32 - t % 32) % 32 ≡ s = omega arith in
    ap (λ k. bit_or (n / 2 ^ (t % 32)) (n * 2 ^ k % 2 ^ 32)) s_is
    ∙ ap (λ k. bit_or (n / 2 ^ k) (n * 2 ^ s % 2 ^ 32)) t_is

-- a turn by none
turned-none : (n t : ℕ) → t ≡ 0 → n < 2 ^ 32 → rotate_right w32 n t ≡ n
turned-none n t none fits =
    let whole : n / 2 ^ 0 ≡ n = omega arith in
    let rest : n * 2 ^ 0 % 2 ^ 32 ≡ n = omega arith in
    ap (rotate_right w32 n) none ∙ ap (λ k. bit_or k (n * 2 ^ 0 % 2 ^ 32)) whole ∙ ap (bit_or n) rest ∙ or_self n

-- of a number that the power divides it is the quotient
pub turned-whole : (q t : ℕ) → t < 32 → q * 2 ^ t < 2 ^ 32 → rotate_right w32 (q * 2 ^ t) t ≡ q
turned-whole q t few fits =
    elim (cases_eq t 0) [
      | inl none ↦ turned-none (q * 2 ^ t) t none fits ∙ ap (λ k. q * 2 ^ k) none ∙ mul-one q
      | inr some ↦
          let s = 32 - t in
          let whole : t + s ≡ 32 = omega arith in
          let low = ap (λ k. k % 2 ^ 32) (mul_assoc q (2 ^ t) (2 ^ s) ∙ ap (λ k. q * k) (parts t s whole))
          ∙ mul-mod_left q (2 ^ 32) in
          turned-some (q * 2 ^ t) t s whole few (omega arith)
          ∙ ap (λ k. bit_or k (q * 2 ^ t * 2 ^ s % 2 ^ 32)) (shl-shr q t) ∙ ap (bit_or q) low ∙ or_zero_r q
    ]

-- what is left of a multiple is the multiple of what is left
rest-times : (n a b : ℕ) → 0 < a → 0 < b → n * b % (a * b) ≡ n % a * b
rest-times n a b some also =
    let spread : (n / a * a + n % a) * b ≡ n / a * (a * b) + n % a * b = omega arith in
    let whole = ap (λ k. k * b) (sym (div-add-mod' n a)) ∙ spread in
    let less : n % a * b < a * b = mul-lt-mul_of_pos_right (mod_below n a some) also in
    ap (λ k. k % (a * b)) whole ∙ mod-mul-add (n / a) (a * b) (n % a * b) less

-- a small number is what was turned, over the power
pub turned-back : (n t r : ℕ) → t < 32 → n < 2 ^ 32 → r ≡ rotate_right w32 n t → r * 2 ^ t < 2 ^ 32 → n ≡ r * 2 ^ t
turned-back n t r few fits turned small =
    elim (cases_eq t 0) [
      | inl none ↦
          sym (turned ∙ turned-none n t none fits) ∙ sym (ap (λ k. r * 2 ^ k) none ∙ mul-one r)
      | inr some ↦
          let s = 32 - t in
          let whole : t + s ≡ 32 = omega arith in
          let e = turned ∙ turned-some n t s whole few (omega arith) in
          some_bits n t s r whole e small
    ]
  where
    some_bits : (n t s r : ℕ) → t + s ≡ 32 → r ≡ bit_or (n / 2 ^ t) (n * 2 ^ s % 2 ^ 32) → r * 2 ^ t < 2 ^ 32
        → n ≡ r * 2 ^ t
    some_bits n t s r whole e small =
        let low = ap (λ k. n * 2 ^ s % k) (sym (parts t s whole))
        ∙ rest-times n (2 ^ t) (2 ^ s) (pow_pos t) (pow_pos s) in
        let two = mul_comm (2 ^ s) (2 ^ t) ∙ parts t s whole in
        let below : r < 2 ^ s = lt_of_mul-lt-mul_right (2 ^ t) (omega (arith, small, two)) in
        let above = le_or_r (n / 2 ^ t) (n * 2 ^ s % 2 ^ 32) in
        let rest : n % 2 ^ t < 1 =
        lt_of_mul-lt-mul_right (2 ^ s) (omega (arith, below, above, e, low)) in
        let none : n % 2 ^ t ≡ 0 = omega arith in
        let zero_low = low ∙ ap (λ k. k * 2 ^ s) none ∙ zero-mul (2 ^ s) in
        let quotient = e ∙ ap (bit_or (n / 2 ^ t)) zero_low ∙ or_zero_r (n / 2 ^ t) in
        let high : n / 2 ^ t * 2 ^ t ≡ n = omega (arith, div-add-mod' n (2 ^ t), rest) in
        sym (ap (λ k. k * 2 ^ t) quotient ∙ high)
