-- What a stash holds.
use Rattle.std.specs.Prelude.{ℕ, ◌≤◌, List, length}
use Rattle.like_limits.specs.Limits.{max_stash}

-- what waits, in the order in which it came, and how much there is room for
pub record StashView (W : Type 0) : Type 0 where
  pub looks : List W
  pub capacity : ℕ

-- what is true of every stash: it has room for 1 to 4,096, and holds no more than it has room for
pub record IsStash {W : Type 0} (s : StashView W) : Type 0 where
  pub some : 1 ≤ s.capacity
  pub few : s.capacity ≤ max_stash
  pub within : length s.looks ≤ s.capacity
