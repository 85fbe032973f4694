use Rattle.std.proofs.Common.{ap, rules, arith}
use Rattle.atomic_table.specs.Seated.{TableId}
use Rattle.like_core.proofs.views.Apart.{word_of-order}
use Rattle.like_board.proofs.Allowed.{glancing}
use Rattle.like_board.proofs.worker_seat.WorkerSeat.glance.Goals as goal

pub load-requires : goal.load-requires
load-requires c =
    let seat = c.args.self.now in
    let board = c.args.board.now in
    let words = ap (λ (t : TableId). t.words) c.requires.here in
    let sized = seat.sized in
    let word = c.word_of-word.ensures in
    let there = word_of-order c.args.page _ c.requires.may.there in (
      c.requires.here,
      omega arith,
      glancing board.table.shared.key _ _ _ c.args.page _ word seat.is_worker c.requires.may,
    )

pub invariant_of-self : goal.invariant_of-self
invariant_of-self c = let told = c.load.ensures.2.0 c.args.page c.word_of-word.ensures in search (rules, told)

pub returns-clause-event : goal.returns-clause-event
returns-clause-event c = let told = c.load.ensures.2.0 c.args.page c.word_of-word.ensures in search (rules, told)

pub returns-clause-bounded : goal.returns-clause-bounded
returns-clause-bounded c = let told = c.load.ensures.2.0 c.args.page c.word_of-word.ensures in search (rules, told)
