use Rattle.std.proofs.Common.{List, Vec, Global, map, rules, subst, Result, Ok, Err, IfErr, OnOk}
use Rattle.std.proofs.lemmas.Result.{err_from_is_err_and}
use Rattle.like_requests.specs.Setup.{IsFirstBroken, IsWithinLimits}
use Rattle.like_requests.specs.declared.request.Request.{Request}
use Rattle.like_requests.specs.declared.setup.Setup.{Setup}
use Rattle.like_promises.specs.declared.report.Report.{Report}
use Rattle.like_promises.specs.declared.run_fault.RunFault.{RunFault}
use Rattle.like_promises.specs.declared.run_fault.RunFault.TheVariants.{Settings, Memory, Start}
use Rattle.like_run.specs.Threads.{IsRunFaultUnderWay}
use Rattle.like_promises.specs.RunFault.{IsRunFault}
use Rattle.like_run.proofs.threads.run_noting.Goals as goal

abbrev requests_of : Vec Request Global → List Request
requests_of plan = plan.items

pub run_within-requires : goal.run_within-requires
run_within-requires g c = (
  search rules,
  (
    search rules,
    subst (λ (xs : List (Vec Request Global)). IsWithinLimits c.args.setup.now (map requests_of xs))
        c.deref.ensures.value c.in_ok-check_setup.ensures,
  ),
)

pub returns-in_err-check_setup-clause-fault : goal.returns-in_err-check_setup-clause-fault
returns-in_err-check_setup-clause-fault g c =
    let p = err_from_is_err_and c.from_residual.result c.from_residual.ensures.1 in
    rw (p.1, p.2)
    (subst (λ (xs : List (Vec Request Global)). IsFirstBroken c.args.setup.now
    (map requests_of xs) c.in_err-check_setup.field-0.0) c.deref.ensures.value c.in_err-check_setup.ensures)

-- what is within the limits says so of an answer, and of each fault of the run itself
when-within : (setup : Setup) (plans : List (List Request)) (r : Result Report RunFault)
    → IsWithinLimits setup plans
    → OnOk r (IsWithinLimits setup plans)
when-within setup plans (Ok report) within = within
when-within setup plans (Err fault) within = tt

run-fault : (setup : Setup) (plans : List (List Request)) (r : Result Report RunFault)
    → IsWithinLimits setup plans
    → IfErr r IsRunFaultUnderWay
    → IfErr r (IsRunFault setup plans)
run-fault setup plans (Ok report) within h = tt
run-fault setup plans (Err (Settings why)) within h = absurd h
run-fault setup plans (Err Memory) within h = within
run-fault setup plans (Err Start) within h = within

pub returns-clause-within : goal.returns-clause-within
returns-clause-within g c =
    when-within c.args.setup.now (map requests_of c.args.plans.items) c.run_within.result
    (subst (λ (xs : List (Vec Request Global)). IsWithinLimits c.args.setup.now (map requests_of xs))
    c.deref.ensures.value c.in_ok-check_setup.ensures)

pub returns-clause-fault : goal.returns-clause-fault
returns-clause-fault g c =
    run-fault c.args.setup.now (map requests_of c.args.plans.items) c.run_within.result
    (subst (λ (xs : List (Vec Request Global)). IsWithinLimits c.args.setup.now (map requests_of xs))
    c.deref.ensures.value c.in_ok-check_setup.ensures) c.run_within.ensures.fault
