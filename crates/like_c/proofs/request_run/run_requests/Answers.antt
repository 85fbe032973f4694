use Rattle.std.proofs.Common.{arith}
use Rattle.like_shared.proofs.Rows.{batch-made, batch-run}
use Rattle.like_c.specs.Rows.{call_of, row_of}
use Rattle.like_c.specs.Told.{deeds_of_request}
use Rattle.like_c.proofs.Told.{call-deeds, no-deeds}
use Rattle.like_c.proofs.request_run.run_requests.Goals as goal

pub returns-clause-run : goal.returns-clause-run
returns-clause-run c =
    batch-run call_of row_of deeds_of_request call-deeds no-deeds _ _ c.args.requests.now c.run.new.answers c.run.result
    c.run.ensures.case

pub returns-clause-answers : goal.returns-clause-answers
returns-clause-answers c =
    let run = c.run.ensures in
    let made = batch-made call_of row_of _ _ c.args.requests.now c.run.new.answers c.run.result run.case in
    record {
      rows_few = run.rows;
      answers_few = omega (arith, run.answers, run.len);
      len = run.len;
      made = made.0;
      next = made.1;
      later = run.rest;
      unasked = run.unasked;
    }
