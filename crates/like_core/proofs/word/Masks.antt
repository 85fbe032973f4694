-- Masks as numbers: each bit is its test.
use Rattle.std.proofs.Common.{◌≡◌, ◌≢◌, ℕ, zero, suc, ◌+◌, ◌-◌, ◌*◌, ◌/◌, ◌^◌, ◌<◌, ◌==◌, ◌↔◌, Bool, true, false, inl, inr, sym, subst, ap, ◌∙◌, refl, arith, pow-suc, zero-mul, one-mul}
use Rattle.std.specs.Int.{bit_at}
use Rattle.std.proofs.Math.Nat.{div-lt_iff_lt-mul}
use Rattle.std.proofs.lemmas.Nat.{pow_pos}
use Rattle.std.proofs.lemmas.Nat.Bits.{bit_at_cat_high, bit_at_cat_low, bit_at_lowest}
use Rattle.std.proofs.lemmas.Bool.{cases_eq}
use Rattle.like_core.specs.Functions.{has_bit, weight, mask}
use Rattle.like_core.proofs.word.States.{weight-lt}

-- a mask of n bits
pub mask-lt : (f : ℕ → Bool) (n : ℕ) → mask f n < 2 ^ n
mask-lt f zero = omega arith
mask-lt f (suc n) =
    let below = mask-lt f n in
    let p : 2 ^ suc n ≡ 2 ^ n * 2 = pow-suc 2 n in
    let P : Bool → Type 0 = λ b. mask f n + weight b * 2 ^ n < 2 ^ suc n in
    elim (f n) as P [
      | true ↦ omega (arith, one-mul (2 ^ n))
      | false ↦ omega (arith, zero-mul (2 ^ n))
    ]

-- equal tests give equal masks
pub mask_same : (f g : ℕ → Bool) (n : ℕ) → ((i : ℕ) → i < n → f i ≡ g i) → mask f n ≡ mask g n
mask_same f g zero same = refl
mask_same f g (suc n) same =
    let rest = mask_same f g n (λ i below. same i (omega arith)) in
    let here = same n (omega arith) in
    λ m. rest m + weight (here m) * 2 ^ n

-- a test that says no gives no bit
pub mask_none : (f : ℕ → Bool) (n : ℕ) → ((i : ℕ) → i < n → f i ≡ false) → mask f n ≡ 0
mask_none f zero none = refl
mask_none f (suc n) none =
    let rest = mask_none f n (λ i below. none i (omega arith)) in
    let here : mask f n + weight (f n) * 2 ^ n ≡ mask f n + 0 * 2 ^ n =
    ap (λ b. mask f n + weight b * 2 ^ n) (none n (omega arith)) in
    omega (arith, zero-mul (2 ^ n))

-- each bit of a mask is its test
pub mask_bit : (f : ℕ → Bool) (n i : ℕ) → i < n → bit_at (mask f n) i ≡ weight (f i)
mask_bit f zero i below = absurd (omega arith)
mask_bit f (suc n) i below =
    let turned : mask f n + weight (f n) * 2 ^ n ≡ weight (f n) * 2 ^ n + mask f n = omega arith in
    elim (cases_eq i n) [
      | inl same ↦
          let at : ℕ → Type 0 = λ k. bit_at (mask f (suc n)) k ≡ weight (f k) in
          let high = bit_at_cat_high (weight (f n)) n (mask f n) n (mask-lt f n) (omega arith) in
          let zeroth : n - n ≡ 0 = omega arith in
          let lowest : bit_at (weight (f n)) 0 ≡ weight (f n) =
          bit_at_lowest (weight (f n)) ∙ omega (arith, weight-lt (f n)) in
          let here : at n =
          ap (λ m. bit_at m n) turned ∙ (high ∙ (ap (λ j. bit_at (weight (f n)) j) zeroth ∙ lowest)) in
          subst at (sym same) here
      | inr other ↦
          ap (λ m. bit_at m i) turned ∙
          (bit_at_cat_low (weight (f n)) n (mask f n) i (omega arith) ∙ mask_bit f n i (omega arith))
    ]

-- so a mask has a bit just where its test says yes
pub mask-has_bit : (f : ℕ → Bool) (n i : ℕ) → i < n → has_bit (mask f n) i ≡ f i
mask-has_bit f n i below =
    let P : Bool → Type 0 = λ b. (weight b == 1) ≡ b in
    let weighs : P (f i) = elim (f i) as P [ true ↦ refl | false ↦ refl ] in
    ap (λ b. b == 1) (mask_bit f n i below) ∙ weighs

-- one test more that says yes adds its bit
pub mask_more : (f g : ℕ → Bool) (n i : ℕ)
    → i < n
    → f i ≡ false
    → g i ≡ true
    → ((j : ℕ) → j ≢ i → g j ≡ f j)
    → mask g n ≡ mask f n + 2 ^ i
mask_more f g zero i below was is others = absurd (omega arith)
mask_more f g (suc n) i below was is others = elim (cases_eq i n) [
  | inl same ↦
      let rest : mask g n ≡ mask f n = mask_same g f n (λ j less. others j (λ eq. absurd (omega arith))) in
      let no : weight (f n) ≡ 0 = ap (λ j. weight (f j)) (sym same) ∙ ap weight was in
      let yes_ : weight (g n) ≡ 1 = ap (λ j. weight (g j)) (sym same) ∙ ap weight is in
      let left : weight (f n) * 2 ^ n ≡ 0 = ap (λ k. k * 2 ^ n) no ∙ zero-mul (2 ^ n) in
      let right : weight (g n) * 2 ^ n ≡ 2 ^ n = ap (λ k. k * 2 ^ n) yes_ ∙ one-mul (2 ^ n) in
      let power : 2 ^ i ≡ 2 ^ n = ap (λ j. 2 ^ j) same in
      omega arith
  | inr other ↦
      let rest = mask_more f g n i (omega arith) was is others in
      let top : weight (g n) * 2 ^ n ≡ weight (f n) * 2 ^ n =
      ap (λ b. weight b * 2 ^ n) (others n (λ eq. other (sym eq))) in
      omega arith
]

-- a number has no bit from k on just where it is below 2 ^ k
pub shr_none : (n k : ℕ) → (n / 2 ^ k ≡ 0) ↔ (n < 2 ^ k)
shr_none n k =
    let less = div-lt_iff_lt-mul {k = 2 ^ k} {x = n} {y = 1} (pow_pos k) in
    let one = one-mul (2 ^ k) in (
      λ none. (let below = less.0 (omega arith) in omega arith),
      λ below. (let none = less.1 (omega arith) in omega arith),
    )
