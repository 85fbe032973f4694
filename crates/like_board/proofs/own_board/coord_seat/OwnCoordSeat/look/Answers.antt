use Rattle.std.proofs.Common.{length, ap, sym, subst, ◌∙◌, arith}
use mathlib.Core.Option.{some}
use lib.ListN.{get_elem?}
use Rattle.own_table.specs.Table.{key_of, words_of}
use Rattle.like_core.proofs.views.Apart.{word_of-past}
use Rattle.like_board.specs.Own.{ShowsWorkers, own_coord, own_opening, own_views}
use Rattle.like_board.proofs.Allowed.{surveying}
use Rattle.like_board.proofs.Fresh.{coord_sight_is, shows_workers}
use Rattle.like_board.proofs.worker.Moves.{coord_opens}
use Rattle.like_board.proofs.own_board.coord_seat.OwnCoordSeat.look.Goals as goal

pub load-word-requires : goal.load-word-requires
load-word-requires c =
    let board = c.args.board.now in
    let seat = c.args.self.now in
    let past = word_of-past (length (own_opening board).counts) in
    let sized = board.sized in
    record {
      here = ap (get_elem? (own_views board)) seat.first ∙ c.requires ∙ ap (λ m. some m.0) (sym seat.is_coord);
      there = omega (arith, past, sized);
      allowed = surveying (key_of board.table) _ _ _ seat.is_coord;
    }

pub returns-clause-fresh : goal.returns-clause-fresh
returns-clause-fresh c =
    let board = c.args.board.now in
    let seat = c.args.self.now in
    let z = own_opening board in
    let e = own_coord seat in
    let held = c.load-word.ensures.held in
    let opened = coord_opens z _ (own_views board) 0 e held c.requires in
    subst (ShowsWorkers e.phase (own_views board))
    (sym (c.coord_sight_in.ensures
    ∙ coord_sight_is z e.opening seat.limits seat.workers _ _ seat.limited opened seat.all c.load-word.ensures.found))
    (shows_workers z (words_of board.table) (own_views board) e held c.requires
    (seat.made_all ∙ ap (λ y. y.workers) opened) seat.none_back)
