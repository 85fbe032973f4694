use Rattle.std.proofs.Common.{◌≡◌, ◌+◌, ◌≤◌, ◌++◌, length, map, vec_capacity, vec_len}
use Rattle.std.specs.Prelude.{reverse}
use Rattle.like_c.specs.Opened.{seat_in}
use Rattle.like_c.proofs.opened.boxed.Given as goal

abbrev pub invariant-loop-live : goal.invariant-loop-live
invariant-loop-live l = record {
  all : l.seats.items ++ reverse (map seat_in l.boxed.items) ≡ l.fn.seats.items;
  len : length l.boxed.items + length l.seats.items ≡ length l.fn.seats.items;
  room : length l.fn.seats.items ≤ vec_capacity l.boxed;
}

abbrev pub decreases-loop-live : goal.decreases-loop-live
decreases-loop-live l = vec_len l.seats
