use Rattle.std.proofs.Common.{◌≡◌, ◌≤◌, [], length, vec_capacity}
use Rattle.like_core.specs.declared.view.View.TheVariants.{Coord}
use Rattle.like_board.specs.Known.{coord_view_of}
use Rattle.like_board.specs.Seats.{AreFresh}
use Rattle.like_board.proofs.new_seats.make_seats.Given as goal

abbrev pub invariant-loop-number : goal.invariant-loop-number
invariant-loop-number l = record {
  board : l.coord.table_id ≡ l.fn.coord.table_id;
  view : l.coord.me ≡ (Coord (record (coord_view_of l.fn.coord.me.0) { made = l.number }), []);
  len : length l.seats.items ≡ l.number;
  room : l.workers ≤ vec_capacity l.seats;
  seats : AreFresh l.fn.coord.table_id (coord_view_of l.fn.coord.me.0).opening l.seats.items;
}
