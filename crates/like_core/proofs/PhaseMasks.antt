-- Masks of hot pages by phase.
use Rattle.std.proofs.Common.{◌≡◌, ℕ, ◌%◌, ◌^◌, ◌<◌, ◌≤◌, ◌==◌, nat_lt, Bool, true, false, ◌&&◌, ◌||◌, inl, inr, List, [], ◌∷◌, ◌++◌, append_assoc, subst, ap, sym, ◌∙◌, refl, eq-eqb, arith}
use Rattle.std.specs.List.{list_any}
use Rattle.std.proofs.lemmas.Bool.{cases_eq, cases_lt, cond-true, ne_eqb, le-ltb, lt-ltb}
use Rattle.std.proofs.lemmas.Nat.Bits.{bit_at_above}
use Rattle.std.proofs.lemmas.List.Elements.{All-tail}
use Rattle.like_core.specs.declared.view.PhaseMask.{PhaseMask}
use Rattle.like_limits.specs.Limits.{hot_pages}
use Rattle.like_core.specs.Functions.{has_bit}
use Rattle.like_core.specs.Phase.{IsSplit, is_hot, is_hot_by, split_by}
use Rattle.like_core.specs.PhaseMasks.{mask_of, HasMask, AreMasksOf, KeepsMasks}
use Rattle.like_core.proofs.Updates.{update-other}

-- where a list has the right mask of each phase that it has, and has one of this phase, that is the right one
pub mask_of-right : (hot : ℕ → ℕ) (masks : List PhaseMask) (phase : ℕ)
    → AreMasksOf hot masks
    → HasMask phase masks
    → mask_of masks phase ≡ hot phase
mask_of-right hot [] phase right has = absurd (cc)
mask_of-right hot (m ∷ masks) phase right has = elim (cases_eq phase m.phase) [
  | inl same ↦
      cond-true (phase == m.phase) m.mask (mask_of masks phase) (eq-eqb phase m.phase same)
      ∙ (right 0 m (omega arith) ∙ ap hot (sym same))
  | inr other ↦
      let P : Bool → Type 0 = λ b. (b || list_any (λ (n : PhaseMask). n.phase == phase) masks) ≡ true in
      let later : HasMask phase masks = subst P (ne_eqb m.phase phase (λ same. other (sym same))) has in
      update-other (mask_of masks) m.phase m.mask phase other ∙
      mask_of-right hot masks phase (All-tail (λ (n : PhaseMask). n.mask ≡ hot n.phase) m masks right) later
]

-- a page is split as the right masks say, where the list has the phase's mask wherever that is asked
pub split-known : (bound : ℕ) (marked : ℕ → Bool) (hot : ℕ → ℕ) (masks : List PhaseMask) (phase page : ℕ)
    → AreMasksOf hot masks
    → (IsSplit phase → marked page ≡ false → page < bound → HasMask phase masks)
    → split_by bound marked hot phase page ≡ split_by bound marked (mask_of masks) phase page
split-known bound marked hot masks phase page right knows = elim (cases_eq (phase % 2) 1) [
  | inl odd ↦ ap (λ (b : Bool). (phase % 2 == 1) && b) (marked_or (marked page) (knows odd))
  | inr even ↦
      let none : (phase % 2 == 1) ≡ false = ne_eqb (phase % 2) 1 even in
      (λ m. none m && (marked page || is_hot_by bound (hot phase) page)) ∙
      sym (λ m. none m && (marked page || is_hot_by bound (mask_of masks phase) page))
]
  where
    marked_or : (b : Bool) → (b ≡ false → page < bound → HasMask phase masks)
        → (b || is_hot_by bound (hot phase) page) ≡ (b || is_hot_by bound (mask_of masks phase) page)
    marked_or true asks = refl
    marked_or false asks = elim (cases_lt page bound) [
      | inl first ↦ ap (λ n. is_hot_by bound n page) (sym (mask_of-right hot masks phase right (asks refl first)))
      | inr past ↦
          let none = le-ltb page bound past in
          (λ m. none m && has_bit (hot phase) page) ∙ sym (λ m. none m && has_bit (mask_of masks phase) page)
    ]

-- of masks that are kept, the old ones are right where the new ones are
pub masks-before : (hot : ℕ → ℕ) (old new : List PhaseMask)
    → KeepsMasks old new
    → AreMasksOf hot new
    → AreMasksOf hot old
masks-before hot old new keeps right = behind keeps.0 (subst (AreMasksOf hot) keeps.1 right)
  where
    behind : (later : List PhaseMask) → AreMasksOf hot (later ++ old) → AreMasksOf hot old
    behind [] all = all
    behind (m ∷ later) all = behind later (All-tail (λ (n : PhaseMask). n.mask ≡ hot n.phase) m (later ++ old) all)

-- masks are kept by two steps
pub masks-both : (a b c : List PhaseMask) → KeepsMasks a b → KeepsMasks b c → KeepsMasks a c
masks-both a b c first then_keeps = (
  then_keeps.0 ++ first.0,
  then_keeps.1 ∙ (ap (λ (l : List PhaseMask). then_keeps.0 ++ l) first.1 ∙ sym (append_assoc then_keeps.0 first.0 a)),
)

-- a mask of 64 bits has none of a later page, so the first 64 pages alone can be hot by it
pub is_hot-narrow : (bound mask page : ℕ) → hot_pages ≤ bound → mask < 2 ^ 64 → is_hot mask page ≡ is_hot_by bound mask page
is_hot-narrow bound mask page room narrow = elim (cases_lt page hot_pages) [
  | inl first ↦
      let in_run = lt-ltb page hot_pages first in
      let in_all = lt-ltb page bound (omega arith) in
      (λ m. in_run m && has_bit mask page) ∙ sym (λ m. in_all m && has_bit mask page)
  | inr past ↦
      let none : has_bit mask page ≡ false = ap (λ b. b == 1) (bit_at_above mask 64 page narrow past) in
      let in_run = le-ltb page hot_pages past in
      let P : Bool → Type 0 = λ b. false ≡ (b && has_bit mask page) in
      let not_in_all : P (nat_lt page bound) = elim (nat_lt page bound) as P [ true ↦ sym none | false ↦ refl ] in
      (λ m. in_run m && has_bit mask page) ∙ not_in_all
]
