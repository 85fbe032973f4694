-- Tests of the numbers below a bound, and bits.
use Rattle.std.proofs.Common.{◌≡◌, ℕ, zero, suc, ◌+◌, ◌-◌, ◌*◌, ◌/◌, ◌%◌, ◌^◌, ◌<◌, ◌==◌, ◌&&◌, ◌||◌, ◌⊎◌, bit_and, bit_or, max, subst, inl, inr, Bool, true, false, ap, sym, ◌∙◌, refl, eq-eqb, arith, zero-mul}
use Rattle.std.specs.Int.{bit_at}
use Rattle.std.proofs.lemmas.Bool.{cases_eq, eqb-true}
use Rattle.std.proofs.Math.Nat.{mod-add-div'}
use Rattle.std.proofs.lemmas.Nat.{and_mask, mod_below, or_disjoint, pow_pos}
use Rattle.std.proofs.lemmas.Nat.Bits.{and_pow, bit_at-lt, bit_at_cat_high, bit_at_cat_low, bit_at_or, bit_at_ones, same_from_bits_below}
use Rattle.like_core.specs.Functions.{each_below, has_bit}

-- both tests say yes
and-both : (a b : Bool) → (a && b) ≡ true → (a ≡ true) × (b ≡ true)
and-both true b is = (refl, is)
and-both false b is = absurd (cc)

-- where a test says yes of each number below, it does so of one of them
pub below-each : (f : ℕ → Bool) (n : ℕ) → each_below f n ≡ true → (i : ℕ) → i < n → f i ≡ true
below-each f zero is i below = absurd (omega arith)
below-each f (suc n) is i below =
    let both = and-both (each_below f n) (f n) is in
    elim (cases_eq i n) [
      | inl same ↦ ap f same ∙ both.1
      | inr other ↦ below-each f n both.0 i (omega arith)
    ]

-- and the other way round
pub each-below : (f : ℕ → Bool) (n : ℕ) → ((i : ℕ) → i < n → f i ≡ true) → each_below f n ≡ true
each-below f zero each = refl
each-below f (suc n) each =
    let rest = each-below f n (λ i below. each i (omega arith)) in
    let here = each n (omega arith) in
    λ m. rest m && here m

-- tests that agree below n
pub each_below-same : (f g : ℕ → Bool) (n : ℕ) → ((i : ℕ) → i < n → f i ≡ g i) → each_below f n ≡ each_below g n
each_below-same f g zero same = refl
each_below-same f g (suc n) same =
    let rest = each_below-same f g n (λ i below. same i (omega arith)) in
    let here = same n (omega arith) in
    λ m. rest m && here m

-- truths that follow from each other are equal
pub same_truth : (a b : Bool) → (a ≡ true → b ≡ true) → (b ≡ true → a ≡ true) → a ≡ b
same_truth true b to from = sym (to refl)
same_truth false true to from = from refl
same_truth false false to from = refl

-- a number of n bits is the greatest just where it has each of them
pub full_bits : (mask n : ℕ) → mask < 2 ^ n → (mask == 2 ^ n - 1) ≡ each_below (has_bit mask) n
full_bits mask n below =
    let ones : (i : ℕ) → i < n → bit_at (2 ^ n - 1) i ≡ 1 = bit_at_ones n in
    same_truth (mask == 2 ^ n - 1) (each_below (has_bit mask) n)
    (λ is. each-below (has_bit mask) n (λ i there.
    eq-eqb (bit_at mask i) 1 (ap (λ k. bit_at k i) (eqb-true mask (2 ^ n - 1) is) ∙ ones i there)))
    (λ each. eq-eqb mask (2 ^ n - 1) (same_from_bits_below n mask (2 ^ n - 1) below (omega arith) (λ i there.
    eqb-true (bit_at mask i) 1 (below-each (has_bit mask) n each i there) ∙ sym (ones i there))))

-- a bit is 0 or 1
bit_cases : (n : ℕ) → n < 2 → (n ≡ 0) ⊎ (n ≡ 1)
bit_cases n below = elim (cases_eq n 0) [
  | inl none ↦ inl none
  | inr some ↦ inr (omega arith)
]

-- the greater of two bits is set where one of them is
either_bit : (a b : ℕ) → a < 2 → b < 2 → (max a b == 1) ≡ ((a == 1) || (b == 1))
either_bit a b a_below b_below =
    let P : ℕ → ℕ → Type 0 = λ x y. (max x y == 1) ≡ ((x == 1) || (y == 1)) in
    elim (bit_cases a a_below) [
      | inl a_is ↦ elim (bit_cases b b_below) [
        | inl b_is ↦ subst (λ x. P x b) (sym a_is) (subst (P 0) (sym b_is) refl)
        | inr b_is ↦ subst (λ x. P x b) (sym a_is) (subst (P 0) (sym b_is) refl)
      ]
      | inr a_is ↦ elim (bit_cases b b_below) [
        | inl b_is ↦ subst (λ x. P x b) (sym a_is) (subst (P 1) (sym b_is) refl)
        | inr b_is ↦ subst (λ x. P x b) (sym a_is) (subst (P 1) (sym b_is) refl)
      ]
    ]

-- to set a bit that a number doesn't have is to add it
pub or_unset : (n k i : ℕ) → has_bit (n / 2 ^ k) i ≡ false → bit_or n (2 ^ (k + i)) ≡ n + 2 ^ (k + i)
or_unset n k i unset =
    let high : ℕ = n / 2 ^ k in
    let low : ℕ = n % 2 ^ k in
    let parts : n ≡ high * 2 ^ k + low = omega (arith, mod-add-div' n (2 ^ k)) in
    let none : bit_at high i ≡ 0 =
    elim (bit_cases (bit_at high i) (bit_at-lt high i)) [
      | inl is ↦ is
      | inr is ↦ let clash : true ≡ false = sym (eq-eqb (bit_at high i) 1 is) ∙ unset in absurd (cc)
    ]
    in
    let place : k + i - k ≡ i = omega arith in
    let none_here : bit_at n (k + i) ≡ 0 =
    ap (λ (m : ℕ). bit_at m (k + i)) parts ∙
    bit_at_cat_high high k low (k + i) (mod_below n (2 ^ k) (pow_pos k)) (omega arith) ∙
    ap (bit_at high) place ∙ none in
    or_disjoint n (2 ^ (k + i))
    (and_pow n (k + i) ∙ ap (λ (b : ℕ). b * 2 ^ (k + i)) none_here ∙ zero-mul (2 ^ (k + i)))

-- two masks together have the bits of either
pub has_bit-or : (a b i : ℕ) → has_bit (bit_or a b) i ≡ (has_bit a i || has_bit b i)
has_bit-or a b i =
    ap (λ k. k == 1) (bit_at_or a b i) ∙ either_bit (bit_at a i) (bit_at b i) (bit_at-lt a i) (bit_at-lt b i)

-- a number has each bit below n just where its lowest n bits are all that there are
pub low_bits : (mask n : ℕ) → (bit_and mask (2 ^ n - 1) == 2 ^ n - 1) ≡ each_below (has_bit mask) n
low_bits mask n =
    let low : ℕ = mask % 2 ^ n in
    let parts : mask ≡ mask / 2 ^ n * 2 ^ n + low = omega (arith, mod-add-div' mask (2 ^ n)) in
    ap (λ (k : ℕ). k == 2 ^ n - 1) (and_mask mask n) ∙
    full_bits low n (mod_below mask (2 ^ n) (pow_pos n)) ∙
    each_below-same (has_bit low) (has_bit mask) n
    (λ i below. ap (λ (b : ℕ). b == 1)
    (sym (ap (λ (k : ℕ). bit_at k i) parts ∙ bit_at_cat_low (mask / 2 ^ n) n low i below)))
