use Rattle.std.proofs.Common.{map, refl, inl, inr, List}
use Rattle.std.proofs.lemmas.Result.{IfErr-weaker, IfOk-weaker, err_from_is_err_and}
use Rattle.like_requests.specs.Pages.{Page}
use Rattle.like_requests.specs.declared.request.Request.{Request}
use Rattle.like_promises.specs.Workload.{lists_of}
use Rattle.like_files.proofs.Ended.{lists-refused}
use Rattle.like_files.proofs.FailedReads.{run-told}
use Rattle.like_files.proofs.run.run_opened.Goals as goal

pub returns-in_err-pages-clause-run : goal.returns-in_err-pages-clause-run
returns-in_err-pages-clause-run g c =
    let p = err_from_is_err_and c.from_residual.result c.from_residual.ensures.1 in
    rw (p.1, p.2) (record { done = tt; fault = inl c.in_err-pages.ensures.file; untouched = λ before. refl })

pub returns-in_err-pages-clause-read : goal.returns-in_err-pages-clause-read
returns-in_err-pages-clause-read g c =
    let p = err_from_is_err_and c.from_residual.result c.from_residual.ensures.1 in
    rw (p.1, p.2) c.in_err-pages.ensures.read

pub returns-in_err-plans-clause-run : goal.returns-in_err-plans-clause-run
returns-in_err-plans-clause-run g c =
    let p = err_from_is_err_and c.from_residual-in_err-plans.result c.from_residual-in_err-plans.ensures.1 in
    rw (p.1, p.2) (record {
      done = tt;
      fault = inl (lists-refused (g.R.Read.remaining c.args.files.pages)
          (map g.R.Read.remaining c.args.files.requests.items) c.in_ok-pages.pages c.in_err-plans.field-0.0
          c.in_ok-pages.ensures.file c.in_err-plans.ensures.plans);
      untouched = λ before. refl;
    })

pub returns-in_err-plans-clause-read : goal.returns-in_err-plans-clause-read
returns-in_err-plans-clause-read g c =
    let p = err_from_is_err_and c.from_residual-in_err-plans.result c.from_residual-in_err-plans.ensures.1 in
    rw (p.1, p.2)
    (c.in_err-plans.ensures.read c.args.files.pages c.args.files.script)

pub returns-clause-run : goal.returns-clause-run
returns-clause-run g c =
    let pages : List Page = c.in_ok-pages.pages in
    let plans : List (List Request) = lists_of c.in_ok-plans.plans.items in
    let ran = rw c.with_pages-setup.ensures at c.run_lists.ensures.run in
    record {
      done = IfOk-weaker c.run_lists.result _ _
          (λ notice done. record {
            pages = pages;
            plans = plans;
            pages_given = c.in_ok-pages.ensures.file;
            plans_given = c.in_ok-plans.ensures.plans;
            holds = done;
          }) ran.done;
      fault = IfErr-weaker c.run_lists.result _ _
          (λ fault why. inr (record {
            pages = pages;
            plans = plans;
            pages_given = c.in_ok-pages.ensures.file;
            plans_given = c.in_ok-plans.ensures.plans;
            holds = why;
          })) ran.fault;
      untouched = ran.untouched;
    }

pub returns-clause-read : goal.returns-clause-read
returns-clause-read g c =
    run-told c.args.files.pages c.args.files.requests.items c.args.files.script c.with_pages-setup.result
    (lists_of c.in_ok-plans.plans.items) c.run_lists.result c.run_lists.ensures.run.fault
