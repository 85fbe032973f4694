use Rattle.like_board.proofs.Allowed.{announcing}
use Rattle.like_board.proofs.coord_seat.CoordSeat.announce.Goals as goal

pub fetch_add-requires : goal.fetch_add-requires
fetch_add-requires c = (
  c.requires.here,
  c.args.board.now.some_word,
  announcing c.args.board.now.table.shared.key _ _ _ c.args.self.now.is_coord c.requires.running,
)
