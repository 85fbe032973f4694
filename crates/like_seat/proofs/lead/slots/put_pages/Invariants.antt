use Rattle.std.proofs.Common.{◌≡◌}
use Rattle.like_board.specs.Seats.{coord_board, coord_view}
use Rattle.like_seat.proofs.Choosing.{PutsFirst}
use Rattle.like_seat.proofs.lead.slots.put_pages.Given as goal

abbrev pub invariant-loop-slot : goal.invariant-loop-slot
invariant-loop-slot l = record {
  board : coord_board l.seat ≡ coord_board l.initial.seat;
  puts : PutsFirst (coord_view l.initial.seat) l.pages l.bits l.slot (coord_view l.seat);
  held : l.held ≡ (coord_view l.seat).slots;
}
