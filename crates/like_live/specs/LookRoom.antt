-- How many more looks may wait at a seat.
use Rattle.std.specs.Prelude.{ℕ}

-- how many of them are free to wait, with no other test; and for how many there is room
pub record RoomView : Type 0 where
  pub free : ℕ
  pub left : ℕ
