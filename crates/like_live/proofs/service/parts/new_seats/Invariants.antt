use Rattle.std.proofs.Common.{◌≡◌, ℕ, Some, length, slice_get}
use Rattle.std.specs.Arc.{arc_value}
use Rattle.like_board.specs.Seats.{board_id}
use Rattle.like_live.specs.LiveView.{LiveView}
use Rattle.like_live.specs.Service.{IsOpenedSeat}
use Rattle.like_live.proofs.service.parts.new_seats.Given as goal

abbrev pub invariant-loop-worker : goal.invariant-loop-worker
invariant-loop-worker g l = record {
  len : length l.seats.items ≡ length l.yielded;
  each : (i : ℕ) (s : LiveView) → slice_get l.seats.items i ≡ Some s
      → IsOpenedSeat l.opening l.factor (board_id (arc_value l.board)) i s;
}
