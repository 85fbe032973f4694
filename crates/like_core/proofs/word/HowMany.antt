-- Of how many numbers a test says yes.
use Rattle.std.proofs.Common.{◌≡◌, ◌≢◌, ℕ, zero, suc, ◌+◌, ◌<◌, ◌≤◌, ◌||◌, Bool, true, false, inl, inr, ap, sym, ◌∙◌, refl, arith}
use Rattle.std.proofs.lemmas.Bool.{cases_eq}
use Rattle.like_core.specs.Functions.{weight, how_many}

-- equal tests give equal numbers
pub how_many-same : (f g : ℕ → Bool) (n : ℕ) → ((i : ℕ) → i < n → f i ≡ g i) → how_many f n ≡ how_many g n
how_many-same f g zero same = refl
how_many-same f g (suc n) same =
    let rest = how_many-same f g n (λ i below. same i (omega arith)) in
    let here : weight (f n) ≡ weight (g n) = ap weight (same n (omega arith)) in
    omega arith

-- a test that says no counts none
pub how_many-none : (f : ℕ → Bool) (n : ℕ) → ((i : ℕ) → i < n → f i ≡ false) → how_many f n ≡ 0
how_many-none f zero none = refl
how_many-none f (suc n) none =
    let rest = how_many-none f n (λ i below. none i (omega arith)) in
    let here : weight (f n) ≡ 0 = ap weight (none n (omega arith)) in
    omega arith

-- one yes more counts one more
pub how_many-more : (f g : ℕ → Bool) (n i : ℕ)
    → i < n
    → f i ≡ false
    → g i ≡ true
    → ((j : ℕ) → j ≢ i → g j ≡ f j)
    → how_many g n ≡ how_many f n + 1
how_many-more f g zero i below was is others = absurd (omega arith)
how_many-more f g (suc n) i below was is others = elim (cases_eq i n) [
  | inl same ↦
      let rest : how_many g n ≡ how_many f n =
      how_many-same g f n (λ j less. others j (λ eq. absurd (omega arith))) in
      let no : weight (f n) ≡ 0 = ap (λ j. weight (f j)) (sym same) ∙ ap weight was in
      let one : weight (g n) ≡ 1 = ap (λ j. weight (g j)) (sym same) ∙ ap weight is in
      omega arith
  | inr other ↦
      let rest = how_many-more f g n i (omega arith) was is others in
      let top : weight (g n) ≡ weight (f n) = ap weight (others n (λ eq. other (sym eq))) in
      omega arith
]

weights_apart : (b c : Bool) → (b ≡ true → c ≡ false) → weight b + weight c ≤ 1
weights_apart true true apart = let clash = apart refl in absurd (cc)
weights_apart true false apart = omega arith
weights_apart false true apart = omega arith
weights_apart false false apart = omega arith

weights_either : (b c : Bool) → (b ≡ true → c ≡ false) → (b || c) ≡ true → weight b + weight c ≡ 1
weights_either true true apart is = let clash = apart refl in absurd (cc)
weights_either true false apart is = refl
weights_either false true apart is = refl
weights_either false false apart is = absurd (cc)

weights_neither : (b c : Bool) → (b || c) ≡ false → weight b + weight c ≡ 0
weights_neither true c is = absurd (cc)
weights_neither false true is = absurd (cc)
weights_neither false false is = refl

module _ (f g : ℕ → Bool) (apart : (i : ℕ) → f i ≡ true → g i ≡ false) where
  -- two tests that never both say yes count no more than all numbers
  pub how_many-both : (n : ℕ) → how_many f n + how_many g n ≤ n
  how_many-both zero = omega arith
  how_many-both (suc n) =
      let rest = how_many-both n in
      let here = weights_apart (f n) (g n) (apart n) in
      omega arith

  -- they count all of them if one of them says yes of each
  pub how_many-all : (n : ℕ) → ((i : ℕ) → i < n → (f i || g i) ≡ true) → how_many f n + how_many g n ≡ n
  how_many-all zero each = refl
  how_many-all (suc n) each =
      let rest = how_many-all n (λ i below. each i (omega arith)) in
      let here = weights_either (f n) (g n) (apart n) (each n (omega arith)) in
      omega arith

  -- and fewer where neither says yes of one
  how_many-short : (n i : ℕ) → i < n → (f i || g i) ≡ false → how_many f n + how_many g n < n
  how_many-short zero i below no_ = absurd (omega arith)
  how_many-short (suc n) i below no_ = elim (cases_eq i n) [
    | inl same ↦
        let rest = how_many-both n in
        let here = weights_neither (f n) (g n) (ap (λ j. f j || g j) (sym same) ∙ no_) in
        omega arith
    | inr other ↦
        let rest = how_many-short n i (omega arith) no_ in
        let here = weights_apart (f n) (g n) (apart n) in
        omega arith
  ]

  pub all-how_many : (n : ℕ) → how_many f n + how_many g n ≡ n → (i : ℕ) → i < n → (f i || g i) ≡ true
  all-how_many n is i below = by_test (f i || g i) refl
    where
      by_test : (b : Bool) → (f i || g i) ≡ b → b ≡ true
      by_test true e = refl
      by_test false e = let less = how_many-short n i below e in absurd (omega arith)
