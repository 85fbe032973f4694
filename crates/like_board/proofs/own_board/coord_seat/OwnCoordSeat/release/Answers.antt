use Rattle.std.proofs.Common.{length, ap, sym, subst, ◌∙◌, arith}
use mathlib.Core.Option.{some}
use lib.ListN.{get_elem?}
use Rattle.own_table.specs.Table.{key_of}
use Rattle.like_core.specs.declared.limits.Limits.{Limits}
use Rattle.like_core.specs.word.Forms.{form_of}
use Rattle.like_core.specs.views.Actions.{Releases}
use Rattle.like_core.proofs.views.Apart.{word_of-past}
use Rattle.like_board.specs.Known.{coord_view_of}
use Rattle.like_board.specs.Own.{own_coord, own_opening, own_views}
use Rattle.like_board.proofs.Allowed.{releasing}
use Rattle.like_board.proofs.own_board.coord_seat.OwnCoordSeat.release.Goals as goal

pub swap-requires : goal.swap-requires
swap-requires c =
    let board = c.args.board.now in
    let seat = c.args.self.now in
    let past = word_of-past (length (own_opening board).counts) in
    let sized = board.sized in
    record {
      here = ap (get_elem? (own_views board)) seat.first ∙ c.requires.here ∙ ap (λ m. some m.0) (sym seat.is_coord);
      there = omega (arith, past, sized);
      allowed = releasing (key_of board.table) _ _ _ seat.seen _
          (c.released-next.ensures ∙ ap (λ (l : Limits). (form_of l.form).released seat.seen) seat.limited) seat.saw
          seat.is_coord c.requires.may;
    }

pub returns-clause-view : goal.returns-clause-view
returns-clause-view c = ap coord_view_of c.swap.ensures.told.0.view

pub returns-clause-event : goal.returns-clause-event
returns-clause-event c =
    subst (Releases (own_coord c.args.self.now)) (sym (returns-clause-view c)) c.swap.ensures.told.0.step
