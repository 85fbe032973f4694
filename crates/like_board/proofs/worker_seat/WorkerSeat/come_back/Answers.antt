use Rattle.std.proofs.Common.{◌∙◌, ap, subst, sym, arith}
use Rattle.like_core.specs.word.Forms.{form_of}
use Rattle.like_core.specs.views.Actions.{ComesBack}
use Rattle.like_board.specs.Known.{worker_view_of}
use Rattle.like_board.specs.Seats.{seat_view}
use Rattle.like_board.proofs.Allowed.{returning}
use Rattle.like_board.proofs.worker_seat.WorkerSeat.come_back.Goals as goal

pub compare_exchange-found-requires : goal.compare_exchange-found-requires
compare_exchange-found-requires c =
    let seat = c.args.self.now in
    let taken = c.retirement-retirement.ensures ∙ (λ m. (form_of (seat.formed m)).retirement (seat.numbered m)) in (
      c.requires.here,
      c.args.board.now.some_word,
      returning c.args.board.now.table.shared.key _ _ _ c.peek-word.result _ seat.is_worker c.requires.gone
          c.requires.lets (omega (arith, c.if-word-eq1.false)) (omega (arith, taken, c.if-word-retirement.false)),
    )

pub returns-clause-event : goal.returns-clause-event
returns-clause-event c =
    let came = c.compare_exchange-found.ensures.2.0.back (omega (arith, c.if-found-word.false)) in
    subst (ComesBack (seat_view c.args.self.now)) (sym (ap worker_view_of came.view)) came.step
