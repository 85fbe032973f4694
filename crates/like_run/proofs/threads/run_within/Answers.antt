use Rattle.std.proofs.Common.{List, Vec, Global, sym, ap, subst}
use Rattle.like_requests.specs.Setup.{IsWithinLimits}
use Rattle.like_requests.specs.declared.request.Request.{Request}
use Rattle.like_promises.specs.Workload.{lists_of}
use Rattle.like_crew.specs.Crew.{IsCrew}
use Rattle.like_crew.specs.Ended.{IsEnded}
use Rattle.like_crew.specs.Site.{IsSite}
use Rattle.like_run.proofs.Reported.{is-report}
use Rattle.like_run.proofs.threads.run_within.Goals as goal

pub new-requires : goal.new-requires
new-requires g c =
    subst (λ (xs : List (Vec Request Global)). IsWithinLimits c.args.setup.now (lists_of xs))
    (sym c.deref.ensures.value) c.requires

pub report_in_parallel-requires-clause-site : goal.report_in_parallel-requires-clause-site
report_in_parallel-requires-clause-site g c κs lives =
    subst (λ (v : Vec (Vec Request Global) Global). IsSite c.args.setup.now (lists_of v.items) c.in_ok-site.site)
    (sym c.of-lists.ensures)
    (subst (λ (xs : List (Vec Request Global)). IsSite c.args.setup.now (lists_of xs) c.in_ok-site.site)
    c.deref.ensures.value c.in_ok-site.ensures.site)

pub report_in_parallel-requires-clause-ended : goal.report_in_parallel-requires-clause-ended
report_in_parallel-requires-clause-ended g c κs lives =
    subst (λ (v : Vec (Vec Request Global) Global). IsEnded (IsCrew c.args.setup.now
    (lists_of v.items) c.in_ok-site.site) c.in_ok-ended.ended) (sym c.of-lists.ensures) c.in_ok-ended.ensures.ended

pub report_in_parallel-requires-clause-within : goal.report_in_parallel-requires-clause-within
report_in_parallel-requires-clause-within g c κs lives =
    subst (λ (v : Vec (Vec Request Global) Global). IsWithinLimits c.args.setup.now (lists_of v.items))
    (sym c.of-lists.ensures) c.requires

pub returns-clause-report : goal.returns-clause-report
returns-clause-report g c =
    is-report c.args.setup.now (lists_of c.of-lists.result.value.items) (lists_of c.args.plans.items)
    c.in_ok-site.site.notes c.args.notes c.in_ok-report_in_parallel.field-0
    (ap (λ (v : Vec (Vec Request Global) Global). lists_of v.items) c.of-lists.ensures) c.in_ok-site.ensures.notes
    c.in_ok-report_in_parallel.ensures.report

pub returns-clause-enough : goal.returns-clause-enough
returns-clause-enough g c = c.in_ok-ended.ensures.enough
