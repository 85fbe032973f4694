use Rattle.std.proofs.Common.{ap, sym, ◌∙◌}
use mathlib.Core.Option.{some}
use Rattle.own_table.specs.Table.{key_of}
use Rattle.like_core.specs.word.Forms.{form_of}
use Rattle.like_board.proofs.Allowed.{putting_in}
use Rattle.like_board.proofs.worker.WorkerSteps.{retires}
use Rattle.like_board.proofs.own_board.worker_seat.OwnWorkerSeat.retire.Goals as goal

pub put_own_answer-requires : goal.put_own_answer-requires
put_own_answer-requires c =
    let seat = c.args.self.now in
    record {
      here = c.requires.here ∙ ap (λ m. some m.0) (sym seat.is_worker);
      allowed = putting_in (key_of c.args.board.now.table) _ _ _ _ _ (retires _ c.requires.runs)
          seat.formed (c.retirement-retirement.ensures ∙ ap (form_of seat.form).retirement seat.numbered) seat.is_worker;
    }
