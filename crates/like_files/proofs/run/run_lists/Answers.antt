use Rattle.std.proofs.Common.{inr, refl}
use Rattle.std.proofs.lemmas.Result.{err_from_is_err_and}
use Rattle.like_requests.proofs.Planned.{plans-within}
use Rattle.like_promises.specs.Workload.{lists_of}
use Rattle.like_promises.specs.Report.{workload_by}
use Rattle.like_files.proofs.Ended.{few_requests, not-before, one_list_a_page, run-refused, run-unwritten}
use Rattle.like_files.proofs.Writable.{IsWritable-end_to_end}
use Rattle.like_files.proofs.run.run_lists.Goals as goal

pub new-requires : goal.new-requires
new-requires g c = record {
  writable = IsWritable-end_to_end
      (workload_by c.args.setup.now (lists_of c.args.plans.items) c.in_ok-report.ensures.report.serial)
      (plans-within _ _ c.in_ok-report.ensures.within)
      c.args.setup.now.workers c.in_ok-report.report c.in_ok-report.ensures.report.serial
      c.in_ok-report.ensures.report.right;
  placed = λ wanted. one_list_a_page c.args.setup.now (lists_of c.args.plans.items) c.in_ok-report.report
      c.in_ok-report.ensures.report.serial
      (c.in_ok-report.ensures.report.places (rw c.extent_of.ensures at wanted));
}

pub of-requires : goal.of-requires
of-requires g c =
    few_requests c.args.setup.now
    (lists_of c.args.plans.items) _ c.in_ok-report.report c.in_ok-report.ensures.within c.in_ok-report.ensures.report

pub returns-in_err-report-clause-run : goal.returns-in_err-report-clause-run
returns-in_err-report-clause-run g c =
    let p = err_from_is_err_and c.from_residual.result c.from_residual.ensures.1 in
    rw (p.1, p.2) (record {
      done = tt;
      fault = run-refused c.args.setup.now
          (lists_of c.args.plans.items) c.in_err-report.field-0.0 c.in_err-report.ensures.fault;
      untouched = λ before. refl;
    })

pub returns-in_err-text-clause-run : goal.returns-in_err-text-clause-run
returns-in_err-text-clause-run g c =
    let p = err_from_is_err_and c.from_residual-in_err-text.result c.from_residual-in_err-text.ensures.1 in
    rw (p.1, p.2) (record {
      done = tt;
      fault = run-unwritten c.args.setup.now
          (lists_of c.args.plans.items) c.in_err-text.field-0.0 c.in_ok-report.ensures.within;
      untouched = λ before. refl;
    })

pub returns-in_err-write_in_parallel-clause-run : goal.returns-in_err-write_in_parallel-clause-run
returns-in_err-write_in_parallel-clause-run g c =
    let p = err_from_is_err_and c.from_residual-in_err-write_in_parallel.result
    c.from_residual-in_err-write_in_parallel.ensures.1 in
    rw (p.1, p.2) (record {
      done = tt;
      fault = run-unwritten c.args.setup.now
          (lists_of c.args.plans.items) c.in_err-write_in_parallel.field-0.0 c.in_ok-report.ensures.within;
      untouched = not-before c.in_err-write_in_parallel.field-0.0;
    })

pub returns-clause-run : goal.returns-clause-run
returns-clause-run g c = record {
  done = record {
    within = c.in_ok-report.ensures.within;
    reported = record {
      report = c.in_ok-report.report;
      right = c.in_ok-report.ensures.report;
      written = rw (c.in_ok-text.ensures.text, c.extent_of.ensures) at c.in_ok-write_in_parallel.ensures.written;
      noticed = c.of.ensures;
    };
  };
  fault = tt;
  untouched = tt;
}

pub returns-in_err-write_in_parallel-clause-begun : goal.returns-in_err-write_in_parallel-clause-begun
returns-in_err-write_in_parallel-clause-begun g c =
    let p = err_from_is_err_and c.from_residual-in_err-write_in_parallel.result
    c.from_residual-in_err-write_in_parallel.ensures.1 in
    rw p.1
    (inr (record {
      report = c.in_ok-report.report;
      right = c.in_ok-report.ensures.report;
      begun = rw (c.in_ok-text.ensures.text, c.extent_of.ensures) at c.in_err-write_in_parallel.ensures.written;
    }))
