-- Places of a worker's submitters.
use Rattle.std.specs.Prelude.{◌≡◌, ℕ, ◌<◌, ◌≤◌, Bool, true, false, List, slice_index_or}

-- the first rank of a range whose submitter's end mark was not taken
pub record IsFirstOpen (ended : List Bool) (from to rank : ℕ) : Type 0 where
  pub low : from ≤ rank
  pub high : rank < to
  pub not_ended : slice_index_or ended rank true ≡ false
  pub first : (other : ℕ) → from ≤ other → other < rank → slice_index_or ended other true ≡ true
