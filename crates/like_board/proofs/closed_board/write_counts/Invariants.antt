use Rattle.std.proofs.Common.{◌≡◌, ℕ, ◌<◌, List, length, slice_index}
use Rattle.like_core.specs.declared.view.CoordSeatView.{CoordSeatView}
use Rattle.like_board.specs.declared.worker_seat.WorkerSeat.{WorkerSeat}
use Rattle.like_board.specs.Closed.{HasAllBack, count_with}
use Rattle.like_board.proofs.closed_board.write_counts.Given as goal

abbrev pub invariant-loop-page : goal.invariant-loop-page
invariant-loop-page l = record {
  board : l.coord.table_id ≡ l.fn.coord.table_id;
  view : l.coord.me.0 ≡ l.fn.coord.me.0;
  counts : (c : CoordSeatView) (seats : List WorkerSeat) → HasAllBack l.fn.coord.me.0 c seats
      → length c.opening.counts ≡ length l.fn.counts → (k : ℕ) → k < l.page
      → slice_index l.counts k ≡ count_with c seats k;
}
