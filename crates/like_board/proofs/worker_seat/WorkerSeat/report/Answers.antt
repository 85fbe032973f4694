use Rattle.std.proofs.Common.{ap, ◌∙◌}
use Rattle.like_core.specs.word.Forms.{form_of}
use Rattle.like_board.proofs.Allowed.{putting_in}
use Rattle.like_board.proofs.worker.WorkerSteps.{reports}
use Rattle.like_board.proofs.worker_seat.WorkerSeat.report.Goals as goal

pub put_answer-requires : goal.put_answer-requires
put_answer-requires c =
    let seat = c.args.self.now in
    record {
      here = c.requires.here;
      allowed = putting_in c.args.board.now.table.shared.key _ _ _ _ _ (reports _ c.requires.runs c.requires.ending)
          seat.formed (c.answer-answer.ensures ∙ ap (form_of seat.form).answer seat.numbered) seat.is_worker;
    }
