use Rattle.std.proofs.Common.{◌∙◌, ap, subst, sym}
use Rattle.like_core.specs.declared.limits.Limits.{Limits}
use Rattle.like_core.specs.word.Forms.{form_of}
use Rattle.like_core.specs.views.Actions.{Releases}
use Rattle.like_board.specs.Known.{coord_view_of}
use Rattle.like_board.specs.Seats.{coord_view}
use Rattle.like_board.proofs.Allowed.{releasing}
use Rattle.like_board.proofs.coord_seat.CoordSeat.release.Goals as goal

pub store-requires : goal.store-requires
store-requires c =
    let seat = c.args.self.now in (
      c.requires.here,
      c.args.board.now.some_word,
      releasing c.args.board.now.table.shared.key _ _ _ seat.seen _
          (c.released-next.ensures ∙ ap (λ (l : Limits). (form_of l.form).released seat.seen) seat.limited) seat.saw
          seat.is_coord c.requires.may,
    )

pub returns-clause-view : goal.returns-clause-view
returns-clause-view c = ap coord_view_of c.store.ensures.2.0.view

pub returns-clause-event : goal.returns-clause-event
returns-clause-event c =
    subst (Releases (coord_view c.args.self.now)) (sym (returns-clause-view c)) c.store.ensures.2.0.step
