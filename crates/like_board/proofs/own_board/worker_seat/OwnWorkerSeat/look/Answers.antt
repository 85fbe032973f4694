use Rattle.std.proofs.Common.{ap, sym, ◌∙◌, subst, length, arith}
use mathlib.Core.Option.{some}
use Rattle.own_table.specs.Table.{key_of, words_of}
use Rattle.like_core.proofs.views.Apart.{word_of-past}
use Rattle.like_board.specs.Own.{ShowsPhase, own_opening, own_view, own_views}
use Rattle.like_board.proofs.Allowed.{looking}
use Rattle.like_board.proofs.Fresh.{shows_phase, sight_is}
use Rattle.like_board.proofs.worker.Moves.{worker_opens}
use Rattle.like_board.proofs.own_board.worker_seat.OwnWorkerSeat.look.Goals as goal

pub load-word-requires : goal.load-word-requires
load-word-requires c =
    let board = c.args.board.now in
    let seat = c.args.self.now in
    let past = word_of-past (length (own_opening board).counts) in
    let sized = board.sized in
    record {
      here = c.requires.here ∙ ap (λ m. some m.0) (sym seat.is_worker);
      there = omega (arith, past, sized);
      allowed = looking (key_of board.table) _ _ _ seat.is_worker c.requires.there;
    }

pub returns-clause-fresh : goal.returns-clause-fresh
returns-clause-fresh c =
    let board = c.args.board.now in
    let seat = c.args.self.now in
    let z = own_opening board in
    let v = own_view seat in
    let held = c.load-word.ensures.held in
    let opened = worker_opens z _ (own_views board) _ v held c.requires.here in
    subst (ShowsPhase (own_views board))
    (sym (c.sight_in.ensures ∙ sight_is z v.opening seat.form seat.turn _ _ v.state seat.formed opened seat.turned
    c.load-word.ensures.found))
    (shows_phase z (words_of board.table) (own_views board) _ v held c.requires.here c.requires.there)
