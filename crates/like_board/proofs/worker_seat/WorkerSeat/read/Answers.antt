use Rattle.std.proofs.Common.{ap, rules, subst, sym, arith}
use Rattle.atomic_table.specs.Seated.{TableId}
use Rattle.like_core.proofs.views.Apart.{word_of-order}
use Rattle.like_core.specs.views.Actions.{Reads}
use Rattle.like_board.specs.Known.{worker_view_of}
use Rattle.like_board.specs.Seats.{seat_view}
use Rattle.like_board.proofs.Allowed.{reading}
use Rattle.like_board.proofs.worker_seat.WorkerSeat.read.Goals as goal

pub load-requires : goal.load-requires
load-requires c =
    let seat = c.args.self.now in
    let board = c.args.board.now in
    let words = ap (λ (t : TableId). t.words) c.requires.here in
    let sized = seat.sized in
    let word = c.word_of-word.ensures in
    let there = word_of-order c.args.page _ c.requires.may.there in (
      c.requires.here,
      omega arith,
      reading board.table.shared.key _ _ _ c.args.page _ word seat.is_worker c.requires.may,
    )

pub invariant_of-self : goal.invariant_of-self
invariant_of-self c = let told = c.load.ensures.2.0 c.args.page c.word_of-word.ensures in search (rules, told)

pub returns-clause-view : goal.returns-clause-view
returns-clause-view c = ap worker_view_of (c.load.ensures.2.0 c.args.page c.word_of-word.ensures).view

pub returns-clause-own : goal.returns-clause-own
returns-clause-own c = (c.load.ensures.2.0 c.args.page c.word_of-word.ensures).own

pub returns-clause-event : goal.returns-clause-event
returns-clause-event c =
    subst (Reads (seat_view c.args.self.now) c.args.page c.load.result) (sym (returns-clause-view c))
    (c.load.ensures.2.0 c.args.page c.word_of-word.ensures).step
