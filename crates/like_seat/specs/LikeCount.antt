-- How the number of a station's likes is kept.
use Rattle.std.specs.Prelude.{ℕ, ◌^◌, ◌<◌, ◌≤◌}

-- how many likes a station has counted, and for how many more there is room
pub record LikeCountView : Type 0 where
  pub likes : ℕ
  pub left : ℕ

-- so much room is left up to an end, and that end is at most 2^56 where any is left
pub record HasRoom (end left : ℕ) : Type 0 where
  pub within : left ≤ end
  pub most : 0 < left → end ≤ 2 ^ 56
