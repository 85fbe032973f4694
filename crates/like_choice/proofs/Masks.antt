-- The bits of a word, as tests.
use Rattle.std.proofs.Common.{◌≡◌, ℕ, ◌*◌, ◌%◌, ◌^◌, ◌<◌, ◌==◌, ◌||◌, ◌⊎◌, inl, inr, Bool, true, false, bit_or, ap, sym, refl, ◌∙◌, w64}
use Rattle.std.proofs.lemmas.Bool.{cases_eq, eq-eqb, eqb-true, ne_eqb, or_right, or_cases}
use Rattle.std.proofs.lemmas.Nat.Bits.{bit_at_set_same, bit_at_set_other}
use Rattle.like_core.specs.Functions.{has_bit}

-- one test or none
pub or_none : (b : Bool) → (b || false) ≡ b
or_none true = refl
or_none false = refl

-- a bit after one was set
pub has_bit-set : (bits slot : ℕ) → slot < 64 → (i : ℕ)
    → has_bit (bit_or bits (1 * 2 ^ slot % 2 ^ 64)) i ≡ (has_bit bits i || (i == slot))
has_bit-set bits slot below i = elim (cases_eq i slot) [
  | inl same ↦
      ap (has_bit (bit_or bits (1 * 2 ^ slot % 2 ^ 64))) same ∙ eq-eqb _ 1 (bit_at_set_same w64 bits slot below)
      ∙ sym (or_right (has_bit bits i) (i == slot) (eq-eqb i slot same))
  | inr other ↦
      ap (λ b. b == 1) (bit_at_set_other w64 bits slot below i other)
      ∙ sym (ap (λ b. has_bit bits i || b) (ne_eqb i slot other) ∙ or_none (has_bit bits i))
]

-- a slot in use after one was set
pub in_use-set : (bits after slot : ℕ) → ((i : ℕ) → has_bit after i ≡ (has_bit bits i || (i == slot)))
    → (i : ℕ) → has_bit after i ≡ true → (has_bit bits i ≡ true) ⊎ (i ≡ slot)
in_use-set bits after slot set i is = elim (or_cases (has_bit bits i) (i == slot) (sym (set i) ∙ is)) [
  | inl old ↦ inl old
  | inr new ↦ inr (eqb-true i slot new)
]
