use Rattle.std.proofs.Common.{length, ap, arith}
use Rattle.atomic_table.specs.Seated.{TableId}
use Rattle.like_core.proofs.views.Apart.{word_of-past}
use Rattle.like_board.specs.Seats.{coord_view}
use Rattle.like_board.proofs.Allowed.{publishing_slots}
use Rattle.like_board.proofs.coord_seat.CoordSeat.publish_slots.Goals as goal

pub store-requires : goal.store-requires
store-requires c =
    let seat = c.args.self.now in
    let words = ap (λ (t : TableId). t.words) c.requires.here in
    let sized = seat.sized in
    let past = word_of-past (length (coord_view c.args.self.now).opening.counts) in (
      c.requires.here,
      omega arith,
      publishing_slots c.args.board.now.table.shared.key _ _ _ c.args.bits seat.is_coord c.requires.may,
    )
