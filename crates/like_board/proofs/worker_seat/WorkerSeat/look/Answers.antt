use Rattle.like_board.proofs.Allowed.{looking}
use Rattle.like_board.proofs.worker_seat.WorkerSeat.look.Goals as goal

pub load-word-requires : goal.load-word-requires
load-word-requires c = (
  c.requires.here,
  c.args.board.now.some_word,
  looking c.args.board.now.table.shared.key _ _ _ c.args.self.now.is_worker c.requires.there,
)
