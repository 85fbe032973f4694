use Rattle.std.proofs.Common.{◌≤◌, length}
use Rattle.like_board.specs.Seats.{board_id}
use Rattle.like_roles.specs.worker.New.{AreNewSeats}
use Rattle.test_parts.proofs.roles.play.seat_players.Given as goal

abbrev pub invariant-loop-seat : goal.invariant-loop-seat
invariant-loop-seat l = record {
  seats : AreNewSeats (board_id l.board) l.setup.pages l.seats.items;
  len : length l.seats.items ≤ l.setup.workers;
}

abbrev pub decreases-loop-seat : goal.decreases-loop-seat
decreases-loop-seat l = length l.seats.items
