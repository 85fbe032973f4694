-- Masks of hot pages by phase, as lists that have the latest first.
use Rattle.std.specs.Prelude.{◌≡◌, ℕ, ◌==◌, true, List, [], ◌∷◌, ◌++◌, All}
use Rattle.std.specs.List.{list_any}
use Rattle.like_core.specs.{Functions.update, declared.view.PhaseMask.PhaseMask}

-- each phase's mask, or 0 if the list has none
abbrev pub mask_of : List PhaseMask → ℕ → ℕ
mask_of [] = λ _. 0
mask_of (m ∷ masks) = update (mask_of masks) m.phase m.mask

-- the list has a mask of the phase
abbrev pub HasMask : ℕ → List PhaseMask → Type 0
HasMask phase masks = list_any (λ m. m.phase == phase) masks ≡ true

-- each of these is the mask of its phase
abbrev pub AreMasksOf : (ℕ → ℕ) → List PhaseMask → Type 0
AreMasksOf hot masks = All (λ m. m.mask ≡ hot m.phase) masks

-- the old masks are among the new ones, behind later ones
abbrev pub KeepsMasks : List PhaseMask → List PhaseMask → Type 0
KeepsMasks old new = (later : List PhaseMask) × (new ≡ later ++ old)
