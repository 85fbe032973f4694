use Rattle.std.proofs.Common.{ap, subst, sym, arith}
use Rattle.atomic_table.specs.Seated.{TableId}
use Rattle.like_core.proofs.views.Apart.{word_of-order}
use Rattle.like_core.specs.views.Actions.{Adds}
use Rattle.like_board.specs.Known.{worker_view_of}
use Rattle.like_board.specs.Seats.{seat_view}
use Rattle.like_board.proofs.Allowed.{adding_to}
use Rattle.like_board.proofs.worker_seat.WorkerSeat.add.Goals as goal

pub fetch_add-requires : goal.fetch_add-requires
fetch_add-requires c =
    let seat = c.args.self.now in
    let board = c.args.board.now in
    let words = ap (λ (t : TableId). t.words) c.requires.here in
    let sized = seat.sized in
    let word = c.word_of-word.ensures in
    let there = word_of-order c.args.page _ c.requires.may.there in (
      c.requires.here,
      omega arith,
      adding_to board.table.shared.key _ _ _ c.args.page _ c.args.n word seat.is_worker c.requires.may,
    )

pub returns-clause-event : goal.returns-clause-event
returns-clause-event c =
    let told = c.fetch_add.ensures.2.0 c.args.page c.word_of-word.ensures in
    subst (Adds (seat_view c.args.self.now) c.args.page c.args.n c.fetch_add.result)
    (sym (ap worker_view_of told.view)) told.step
