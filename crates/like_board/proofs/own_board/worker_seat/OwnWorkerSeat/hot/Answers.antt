use Rattle.std.proofs.Common.{ap, sym, ◌∙◌, length, arith}
use mathlib.Core.Option.{some}
use Rattle.own_table.specs.Table.{key_of}
use Rattle.like_core.proofs.views.Apart.{word_of-past}
use Rattle.like_board.specs.Own.{own_opening}
use Rattle.like_board.proofs.Allowed.{reading_mask}
use Rattle.like_board.proofs.own_board.worker_seat.OwnWorkerSeat.hot.Goals as goal

pub load-requires : goal.load-requires
load-requires c =
    let board = c.args.board.now in
    let seat = c.args.self.now in
    let past = word_of-past (length (own_opening board).counts) in
    let sized = board.sized in
    record {
      here = c.requires.here ∙ ap (λ m. some m.0) (sym seat.is_worker);
      there = omega (arith, past, sized);
      allowed = reading_mask (key_of board.table) _ _ _ seat.is_worker c.requires.runs c.requires.plain;
    }
