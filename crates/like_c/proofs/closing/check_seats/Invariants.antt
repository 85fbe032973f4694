use Rattle.std.proofs.Common.{◌≡◌, map, take}
use Rattle.std.specs.List.{All}
use Rattle.like_c.specs.Closes.{HoldsGone, home_of}
use Rattle.like_c.proofs.closing.check_seats.Given as goal

abbrev pub invariant-loop-i : goal.invariant-loop-i
invariant-loop-i l = record {
  same : map home_of l.seats ≡ map home_of l.fn.seats;
  gone : All HoldsGone (take l.i l.fn.seats);
}
