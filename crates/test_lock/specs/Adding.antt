-- Numbers that are added.
use Rattle.std.specs.Prelude.{◌≡◌, ◌+◌, ℕ}

-- a number was added to another
abbrev pub Added : ℕ → ℕ → ℕ → Type 0
Added before more after = after ≡ before + more
