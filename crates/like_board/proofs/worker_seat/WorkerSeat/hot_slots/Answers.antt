use Rattle.std.proofs.Common.{length, ap, arith}
use Rattle.atomic_table.specs.Seated.{TableId}
use Rattle.like_core.proofs.views.Apart.{word_of-past}
use Rattle.like_board.specs.Seats.{seat_view}
use Rattle.like_board.proofs.Allowed.{reading_slots}
use Rattle.like_board.proofs.worker_seat.WorkerSeat.hot_slots.Goals as goal

pub load-requires : goal.load-requires
load-requires c =
    let seat = c.args.self.now in
    let words = ap (λ (t : TableId). t.words) c.requires.here in
    let sized = seat.sized in
    let past = word_of-past (length (seat_view c.args.self.now).opening.marks) in (
      c.requires.here,
      omega arith,
      reading_slots c.args.board.now.table.shared.key _ _ _ seat.is_worker c.requires.may,
    )
