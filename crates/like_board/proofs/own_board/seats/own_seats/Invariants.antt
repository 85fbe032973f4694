use Rattle.std.proofs.Common.{◌≡◌, ◌≤◌, length, vec_capacity}
use Rattle.like_board.specs.Own.{AreNewOwn}
use Rattle.like_board.proofs.own_board.seats.own_seats.Given as goal

abbrev pub invariant-loop-number : goal.invariant-loop-number
invariant-loop-number l = record {
  len : length l.seats.items ≡ l.number;
  room : l.workers ≤ vec_capacity l.seats;
  seats : AreNewOwn l.board l.seats.items;
}
