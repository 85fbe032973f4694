use Rattle.std.proofs.Common.{◌≡◌, ◌++◌, [], All, map, vec_len}
use Rattle.like_core.specs.declared.view.View.TheVariants.{Coord}
use Rattle.like_board.specs.Known.{coord_view_of}
use Rattle.like_board.specs.Seats.{board_id, seat_board, seat_view}
use Rattle.like_board.proofs.closed_board.gather.Given as goal

abbrev pub invariant-loop-seat : goal.invariant-loop-seat
invariant-loop-seat l = record {
  board : l.coord.table_id ≡ l.fn.coord.table_id;
  coord : l.coord.me
      ≡ (Coord (record (coord_view_of l.fn.coord.me.0) { joined = (coord_view_of l.coord.me.0).joined }), []);
  joined : map seat_view l.seats.items ++ (coord_view_of l.coord.me.0).joined
      ≡ map seat_view l.fn.seats.items ++ (coord_view_of l.fn.coord.me.0).joined;
  seats : All (λ seat. seat_board seat ≡ board_id l.board) l.seats.items;
}

abbrev pub decreases-loop-seat : goal.decreases-loop-seat
decreases-loop-seat l = vec_len l.seats
