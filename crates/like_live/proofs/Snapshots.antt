-- What was added up to a phase, by the deeds in their order.
use Rattle.std.proofs.Common.{◌≡◌, ℕ, zero, suc, ◌+◌, ◌≤◌, ◌<◌, ◌==◌, ◌&&◌, Bool, true, false, cond, nat_lt, List, [], ◌∷◌, length, slice_get, Some, refl, ap, sym, ◌∙◌, arith, eq-eqb, ne_eqb}
use Rattle.like_core.specs.declared.page_step.PageCall.{PageCall}
use Rattle.like_core.specs.declared.page_step.PageCall.TheVariants.{Add, Read, Glance}
use Rattle.like_core.specs.declared.page_step.PageStep.{PageStep}
use Rattle.like_core.specs.Additions.{added_before}
use Rattle.like_core.specs.PageSteps.{additions_among, adds_to, and_addition, likes_of}
use Rattle.like_core.proofs.core.Labels.{added_before-push}
use Rattle.like_serial.proofs.Totals.{only-none}
use Rattle.like_serial.proofs.Weigh.{only, weigh}

-- what the additions among steps have before a phase is what the steps add
pub before_steps : (n page : ℕ) (steps : List PageStep)
    → added_before n page (additions_among steps) ≡ weigh (λ s. only (nat_lt s.phase n) (adds_to page s)) steps
before_steps n page [] = refl
before_steps n page (s ∷ steps) =
    by s.call
    ∙ ap (λ k. only (nat_lt s.phase n) (adds_to page s) + k) (before_steps n page steps) where
      tests : (a b : Bool) (k : ℕ) → cond (a && b) k 0 ≡ only a (cond b k 0)
      tests true b k = refl
      tests false b k = refl

      none : (b : Bool) → cond {A = ℕ} b 0 0 ≡ 0
      none true = refl
      none false = refl

      by : (call : PageCall)
          → added_before n page (and_addition (additions_among steps) s.phase s.page s.found call)
          ≡ only (nat_lt s.phase n) (cond (s.page == page) (likes_of call) 0) + added_before n page (additions_among steps)
      by (Add k) =
          let more = added_before-push (additions_among steps) s.phase s.page s.found k n page in
          let here = tests (nat_lt s.phase n) (s.page == page) k in
          omega arith
      by Read =
          let zero_is = ap (only (nat_lt s.phase n)) (none (s.page == page)) ∙ only-none (nat_lt s.phase n) in
          omega arith
      by Glance =
          let zero_is = ap (only (nat_lt s.phase n)) (none (s.page == page)) ∙ only-none (nat_lt s.phase n) in
          omega arith

-- of things with numbers one after the other, what counts at one number
pub at_number : {A : Type 0} (number G : A → ℕ) (xs : List A) (from : ℕ)
    → ((k : ℕ) (x : A) → slice_get xs k ≡ Some x → number x ≡ from + k)
    → (R : ℕ → ℕ) → ((k : ℕ) (x : A) → slice_get xs k ≡ Some x → R k ≡ G x)
    → ((k : ℕ) → length xs ≤ k → R k ≡ 0)
    → (k : ℕ) → weigh (λ x. only (number x == (from + k)) (G x)) xs ≡ R k
at_number number G [] from each R there past k = sym (past k (omega arith))
at_number number G (x ∷ xs) from each R there past zero =
    let here = each 0 x refl in
    let first : only (number x == (from + 0)) (G x) ≡ G x =
    ap (λ b. only b (G x)) (eq-eqb (number x) (from + 0) (omega (arith, here))) in
    let rest : weigh (λ y. only (number y == (from + 0)) (G y)) xs ≡ 0 =
    none_later number G xs (from + 1) (from + 0)
    (λ k y at. let e = each (suc k) y at in omega (arith, e)) (omega arith) in
    let is = there 0 x refl in
    omega (arith, first, rest, is)
  where
    none_later : {A : Type 0} (number G : A → ℕ) (xs : List A) (from j : ℕ)
        → ((k : ℕ) (x : A) → slice_get xs k ≡ Some x → number x ≡ from + k) → j < from
        → weigh (λ x. only (number x == j) (G x)) xs ≡ 0
    none_later number G [] from j each less = refl
    none_later number G (x ∷ xs) from j each less =
        let here = each 0 x refl in
        let first : only (number x == j) (G x) ≡ 0 =
        ap (λ b. only b (G x)) (ne_eqb (number x) j (λ e. absurd (omega (arith, e, here, less)))) in
        let rest = none_later number G xs (from + 1) j
        (λ k y at. let e = each (suc k) y at in omega (arith, e)) (omega (arith, less)) in
        omega (arith, first, rest)
at_number number G (x ∷ xs) from each R there past (suc k) =
    let here = each 0 x refl in
    let first : only (number x == (from + suc k)) (G x) ≡ 0 =
    ap (λ b. only b (G x)) (ne_eqb (number x) (from + suc k) (λ e. absurd (omega (arith, e, here)))) in
    let same : from + suc k ≡ suc from + k = omega arith in
    let rest : weigh (λ y. only (number y == (from + suc k)) (G y)) xs ≡ R (suc k) =
    ap (λ j. weigh (λ y. only (number y == j) (G y)) xs) same
    ∙ at_number number G xs (suc from) (λ j y at. let e = each (suc j) y at in omega (arith, e))
    (λ j. R (suc j)) (λ j y at. there (suc j) y at) (λ j less. past (suc j) (omega (arith, less))) k in
    omega (arith, first, rest)
