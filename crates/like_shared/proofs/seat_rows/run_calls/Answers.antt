use Rattle.std.proofs.Common.{Ok, arith}
use Rattle.like_shared.proofs.Rows.{batch-made, calls-run}
use Rattle.like_shared.proofs.seat_rows.run_calls.Goals as goal

pub returns-clause-run : goal.returns-clause-run
returns-clause-run c = calls-run _ _ c.args.rows.now c.run.new.answers c.run.result c.run.ensures.case

pub returns-clause-answers : goal.returns-clause-answers
returns-clause-answers c =
    let run = c.run.ensures in
    let made = batch-made (λ x. Ok x) (λ a. a) _ _ c.args.rows.now c.run.new.answers c.run.result run.case in
    record {
      rows_few = run.rows;
      answers_few = omega (arith, run.answers, run.len);
      len = run.len;
      made = made.0;
      next = made.1;
      later = run.rest;
      unasked = run.unasked;
    }
