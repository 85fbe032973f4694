use Rattle.std.proofs.Common.{◌≡◌, ◌∙◌, ℕ, List, Vec, Global, length, map, subst, sym, inl, inr, Result, Ok, Err, IfErr, OnOk}
use Rattle.std.specs.List.{All}
use Rattle.std.proofs.lemmas.List.{length-map}
use Rattle.std.proofs.lemmas.Result.{err_from_is_err_and}
use Rattle.like_requests.specs.Setup.{IsFirstBroken, IsWithinLimits}
use Rattle.like_requests.specs.declared.request.Request.{Request}
use Rattle.like_requests.specs.declared.setup.Setup.{Setup}
use Rattle.like_promises.specs.declared.report.Report.{Report}
use Rattle.like_run.specs.declared.rounds.fault.ReplayFault.{ReplayFault}
use Rattle.like_run.specs.declared.rounds.fault.ReplayFault.TheVariants.{Settings, Memory, Unfinished}
use Rattle.like_requests.specs.declared.script.Turned.{Turned}
use Rattle.like_run.specs.Rounds.{CanReplayScript, IsReplayFaultUnderWay, IsReplayFault, IsUnfinished}
use Rattle.like_requests.specs.Script.{IsFirstAway, IsInRun}
use Rattle.like_run.proofs.rounds.replay_noting.Goals as goal

abbrev requests_of : Vec Request Global → List Request
requests_of plan = plan.items

pub replay_within-requires-clause-within : goal.replay_within-requires-clause-within
replay_within-requires-clause-within c =
    subst (λ (xs : List (Vec Request Global)). IsWithinLimits c.args.setup.now (map requests_of xs))
    c.deref.ensures.value c.in_ok-check_setup.ensures

pub replay_within-requires-clause-script : goal.replay_within-requires-clause-script
replay_within-requires-clause-script c =
    subst (λ n. All (IsInRun c.args.setup.now.workers n) c.args.script.now)
    (c.len.ensures ∙ c.args.plans.ok.0) c.in_ok-check_script.ensures

pub returns-in_err-check_setup-clause-fault : goal.returns-in_err-check_setup-clause-fault
returns-in_err-check_setup-clause-fault c =
    let p = err_from_is_err_and c.from_residual.result c.from_residual.ensures.1 in
    rw (p.1, p.2)
    (inl (subst (λ (xs : List (Vec Request Global)). IsFirstBroken c.args.setup.now
    (map requests_of xs) c.in_err-check_setup.field-0.0) c.deref.ensures.value c.in_err-check_setup.ensures))

pub returns-in_err-check_script-clause-fault : goal.returns-in_err-check_script-clause-fault
returns-in_err-check_script-clause-fault c =
    let p = err_from_is_err_and c.from_residual-in_err-check_script.result
    c.from_residual-in_err-check_script.ensures.1 in
    let many = c.len.ensures ∙ c.args.plans.ok.0 ∙ sym (length-map c.args.plans.items requests_of) in
    rw (p.1, p.2) (inr (
      subst (λ (xs : List (Vec Request Global)). IsWithinLimits c.args.setup.now (map requests_of xs))
          c.deref.ensures.value c.in_ok-check_setup.ensures,
      subst (λ n. IsFirstAway c.args.setup.now.workers n c.args.script.now c.in_err-check_script.field-0.0) many
          c.in_err-check_script.ensures,
    ))

-- what fits says so of an answer, and of each fault of the run itself
when-fits : (setup : Setup) (plans : List (List Request)) (script : List Turned) (r : Result Report ReplayFault)
    → CanReplayScript setup plans script
    → OnOk r (CanReplayScript setup plans script)
when-fits setup plans script (Ok report) fits = fits
when-fits setup plans script (Err fault) fits = tt

run-fault : (setup : Setup) (plans : List (List Request)) (script : List Turned) (r : Result Report ReplayFault)
    → CanReplayScript setup plans script
    → IfErr r (IsReplayFaultUnderWay (IsUnfinished setup plans script))
    → IfErr r (IsReplayFault setup plans script)
run-fault setup plans script (Ok report) fits h = tt
run-fault setup plans script (Err (Settings why)) fits h = absurd h
run-fault setup plans script (Err Memory) fits h = fits
run-fault setup plans script (Err Unfinished) fits h = (fits, h)

-- what was tested fits
tested : (setup : Setup) (plans : List (Vec Request Global)) (script : List Turned) (many : ℕ)
    → IsWithinLimits setup (map requests_of plans)
    → many ≡ length plans
    → All (IsInRun setup.workers many) script
    → CanReplayScript setup (map requests_of plans) script
tested setup plans script many within sized there = record {
  within = within;
  there = subst (λ n. All (IsInRun setup.workers n) script) (sized ∙ sym (length-map plans requests_of)) there;
}

pub returns-clause-fits : goal.returns-clause-fits
returns-clause-fits c =
    when-fits c.args.setup.now (map requests_of c.args.plans.items) c.args.script.now c.replay_within.result
    (tested c.args.setup.now c.args.plans.items c.args.script.now c.len.result
    (subst (λ (xs : List (Vec Request Global)). IsWithinLimits c.args.setup.now (map requests_of xs))
    c.deref.ensures.value c.in_ok-check_setup.ensures)
    (c.len.ensures ∙ c.args.plans.ok.0) c.in_ok-check_script.ensures)

pub returns-clause-fault : goal.returns-clause-fault
returns-clause-fault c =
    run-fault c.args.setup.now (map requests_of c.args.plans.items) c.args.script.now c.replay_within.result
    (tested c.args.setup.now c.args.plans.items c.args.script.now c.len.result
    (subst (λ (xs : List (Vec Request Global)). IsWithinLimits c.args.setup.now (map requests_of xs))
    c.deref.ensures.value c.in_ok-check_setup.ensures)
    (c.len.ensures ∙ c.args.plans.ok.0) c.in_ok-check_script.ensures) c.replay_within.ensures.fault
