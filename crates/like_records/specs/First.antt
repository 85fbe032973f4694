-- The first of several tests that fails.
use Rattle.std.specs.Prelude.{◌≡◌, ◌<◌, ◌⊎◌, ℕ, List, [], ◌∷◌, length, slice_index_or}

-- t is the first test of the list that fails
abbrev pub FailsFirst : {T : Type 0} → (T → Type 0) → List T → T → Type 0
FailsFirst Holds [] t = ⊥
FailsFirst Holds (x ∷ xs) t = ((t ≡ x) × ¬ Holds x) ⊎ (Holds x × FailsFirst Holds xs t)

-- the element at i is the first that is not good
pub record IsFirstBad {X : Type 0} (Good : X → Type 0) (xs : List X) (i : ℕ) : Type 0 where
  pub within : i < length xs
  pub bad : (d : X) → ¬ Good (slice_index_or xs i d)
  pub before : (k : ℕ) (d : X) → k < i → Good (slice_index_or xs k d)
