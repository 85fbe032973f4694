-- What a board's words tell of the choice of hot pages.
use Rattle.std.proofs.Common.{◌≡◌, ℕ, ◌<◌, List, length, slice_index, subst, sym, ◌∙◌, refl}
use Rattle.like_limits.specs.Limits.{hot_pages}
use Rattle.like_core.specs.declared.opening.Opening.{Opening}
use Rattle.like_core.specs.Slots.{IsChoice}
use Rattle.like_core.specs.views.Layout.{mask_place, slot_in}
use Rattle.like_core.specs.views.Shows.{IsChosen, mask_in}
use Rattle.like_core.proofs.Slots.{choice-none, choice-same, mask_by-none, mask_by-same}

-- the slots and the mask word are as they were
pub record KeepsChoice (words later : List ℕ) : Type 0 where
  pub slots : (slot : ℕ) → slot < hot_pages → slot_in later slot ≡ slot_in words slot
  pub mask : slice_index later mask_place ≡ slice_index words mask_place

-- then the words tell the same mask
pub mask_in-kept : (z : Opening) (words later : List ℕ) → KeepsChoice words later → mask_in z later ≡ mask_in z words
mask_in-kept z words later keeps =
    mask_by-same z.limits (slot_in later) (slot_in words)
    (slice_index later mask_place) (slice_index words mask_place) keeps.slots keeps.mask

-- and the choice is as lawful
pub chosen-kept : (z : Opening) (words later : List ℕ) → KeepsChoice words later → IsChosen z words → IsChosen z later
chosen-kept z words later keeps chosen = λ slotted.
    subst (IsChoice z.factor (length z.counts) (slot_in later)) (sym keeps.mask)
    (choice-same z.factor (length z.counts) (slot_in words) (slot_in later) (slice_index words mask_place)
    (λ slot below. sym (keeps.slots slot below)) (chosen slotted))

-- no slot in use: no mask, and a lawful choice
pub mask_in-none : (z : Opening) (words : List ℕ) → slice_index words mask_place ≡ 0 → mask_in z words ≡ 0
mask_in-none z words none =
    mask_by-same z.limits (slot_in words) (slot_in words) (slice_index words mask_place) 0 (λ slot below. refl) none
    ∙ mask_by-none z.limits (slot_in words)

pub chosen-none : (z : Opening) (words : List ℕ) → slice_index words mask_place ≡ 0 → IsChosen z words
chosen-none z words none = λ slotted.
    subst (IsChoice z.factor (length z.counts) (slot_in words)) (sym none)
    (choice-none z.factor (length z.counts) (slot_in words))
