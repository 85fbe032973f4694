use Rattle.std.proofs.Common.{◌≡◌, take}
use Rattle.like_board.specs.Seats.{coord_board, coord_view}
use Rattle.like_core.specs.declared.view.View.TheVariants.{Coord}
use Rattle.like_core.specs.views.Shows.{IsKnown}
use Rattle.like_seat.specs.Lead.{counted_from}
use Rattle.like_seat.proofs.lead.counts.read_range.Given as goal

abbrev pub invariant-loop-page : goal.invariant-loop-page
invariant-loop-page l =
    let z = (coord_view l.initial.seat).opening in
    record {
      board : coord_board l.seat ≡ coord_board l.initial.seat;
      view : coord_view l.seat ≡ counted_from (coord_view l.initial.seat) l.from (take l.page l.counts);
      known : IsKnown z (Coord (coord_view l.initial.seat)) → IsKnown z (Coord (coord_view l.seat));
    }
