use Rattle.std.proofs.Common.{inr, refl}
use Rattle.std.proofs.lemmas.Result.{err_from_is_err_and}
use Rattle.like_requests.proofs.Planned.{plans-within}
use Rattle.like_promises.specs.Workload.{lists_of}
use Rattle.like_promises.specs.Report.{workload_by}
use Rattle.like_files.proofs.Ended.{few_requests, not-before, one_list_a_page, replay-refused, replay-unwritten}
use Rattle.like_files.proofs.Writable.{IsWritable-end_to_end}
use Rattle.like_files.proofs.replay.replay_lists.Goals as goal

pub new-requires : goal.new-requires
new-requires g c = record {
  writable = IsWritable-end_to_end
      (workload_by c.args.setup.now (lists_of c.args.plans.items) c.in_ok-report.ensures.report.serial)
      (plans-within _ _ c.in_ok-report.ensures.fits.within)
      c.args.setup.now.workers c.in_ok-report.report c.in_ok-report.ensures.report.serial
      c.in_ok-report.ensures.report.right;
  placed = λ wanted. one_list_a_page c.args.setup.now (lists_of c.args.plans.items) c.in_ok-report.report
      c.in_ok-report.ensures.report.serial
      (c.in_ok-report.ensures.report.places (rw c.extent_of.ensures at wanted));
}

pub of-requires : goal.of-requires
of-requires g c =
    few_requests c.args.setup.now
    (lists_of c.args.plans.items) _ c.in_ok-report.report c.in_ok-report.ensures.fits.within c.in_ok-report.ensures.report

pub returns-in_err-report-clause-replayed : goal.returns-in_err-report-clause-replayed
returns-in_err-report-clause-replayed g c =
    let p = err_from_is_err_and c.from_residual.result c.from_residual.ensures.1 in
    rw (p.1, p.2) (record {
      done = tt;
      fault = replay-refused c.args.setup.now
          (lists_of c.args.plans.items) c.args.script.now c.in_err-report.field-0.0 c.in_err-report.ensures.fault;
      untouched = λ before. refl;
    })

pub returns-in_err-text-clause-replayed : goal.returns-in_err-text-clause-replayed
returns-in_err-text-clause-replayed g c =
    let p = err_from_is_err_and c.from_residual-in_err-text.result c.from_residual-in_err-text.ensures.1 in
    rw (p.1, p.2) (record {
      done = tt;
      fault = replay-unwritten c.args.setup.now
          (lists_of c.args.plans.items) c.args.script.now c.in_err-text.field-0.0 c.in_ok-report.ensures.fits;
      untouched = λ before. refl;
    })

pub returns-in_err-write-clause-replayed : goal.returns-in_err-write-clause-replayed
returns-in_err-write-clause-replayed g c =
    let p = err_from_is_err_and c.from_residual-in_err-write.result c.from_residual-in_err-write.ensures.1 in
    rw (p.1, p.2) (record {
      done = tt;
      fault = replay-unwritten c.args.setup.now
          (lists_of c.args.plans.items) c.args.script.now c.in_err-write.field-0.0 c.in_ok-report.ensures.fits;
      untouched = not-before c.in_err-write.field-0.0;
    })

pub returns-clause-replayed : goal.returns-clause-replayed
returns-clause-replayed g c = record {
  done = record {
    fits = c.in_ok-report.ensures.fits;
    reported = record {
      report = c.in_ok-report.report;
      right = c.in_ok-report.ensures.report;
      written = rw (c.in_ok-text.ensures.text, c.extent_of.ensures) at c.in_ok-write.ensures.written;
      noticed = c.of.ensures;
    };
    follows = c.in_ok-report.ensures.follows;
  };
  fault = tt;
  untouched = tt;
}

pub returns-in_err-write-clause-begun : goal.returns-in_err-write-clause-begun
returns-in_err-write-clause-begun g c =
    let p = err_from_is_err_and c.from_residual-in_err-write.result c.from_residual-in_err-write.ensures.1 in
    rw p.1
    (inr (record {
      report = c.in_ok-report.report;
      right = c.in_ok-report.ensures.report;
      begun = rw (c.in_ok-text.ensures.text, c.extent_of.ensures) at c.in_err-write.ensures.written;
    }))
