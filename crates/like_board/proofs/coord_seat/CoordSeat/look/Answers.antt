use Rattle.like_board.proofs.Allowed.{surveying}
use Rattle.like_board.proofs.coord_seat.CoordSeat.look.Goals as goal

pub load-word-requires : goal.load-word-requires
load-word-requires c =
    (c.requires, c.args.board.now.some_word, surveying c.args.board.now.table.shared.key _ _ _ c.args.self.now.is_coord)
