use Rattle.std.proofs.Common.{length, ap, sym, ◌∙◌, arith}
use mathlib.Core.Option.{some}
use lib.ListN.{get_elem?}
use Rattle.own_table.specs.Table.{key_of}
use Rattle.like_core.proofs.views.Apart.{word_of-past}
use Rattle.like_board.specs.Own.{own_opening, own_views}
use Rattle.like_board.proofs.Allowed.{announcing}
use Rattle.like_board.proofs.own_board.coord_seat.OwnCoordSeat.announce.Goals as goal

pub fetch_add-requires : goal.fetch_add-requires
fetch_add-requires c =
    let board = c.args.board.now in
    let seat = c.args.self.now in
    let past = word_of-past (length (own_opening board).counts) in
    let sized = board.sized in
    record {
      here = ap (get_elem? (own_views board)) seat.first ∙ c.requires.here ∙ ap (λ m. some m.0) (sym seat.is_coord);
      there = omega (arith, past, sized);
      allowed = announcing (key_of board.table) _ _ _ seat.is_coord c.requires.running;
    }
