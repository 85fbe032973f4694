use Rattle.std.proofs.Common.{◌≡◌, ◌≤◌, ◌∙◌, All, List, [], Vec, Global, get_or, length, map, refl, sym, ap, subst}
use Rattle.std.specs.List.{AllZip}
use Rattle.std.proofs.lemmas.List.{length-map}
use Rattle.std.proofs.lemmas.Result.{err_from_is_err_and}
use Rattle.like_requests.specs.Setup.{IsWithinLimits}
use Rattle.like_requests.specs.declared.request.Request.{Request}
use Rattle.like_requests.specs.Script.{IsInRun}
use Rattle.like_core.specs.declared.opening.Opening.{Opening}
use Rattle.like_limits.specs.Limits.{max_requests}
use Rattle.like_promises.specs.Workload.{lists_of, workload_of}
use Rattle.like_promises.specs.declared.chosen.Chosen.{Chosen}
use Rattle.like_promises.specs.declared.log.WorkerLog.{WorkerLog}
use Rattle.like_crew.specs.Crew.{GoesOn, IsCrewOf}
use Rattle.like_crew.specs.Outcome.{IsOutcome}
use Rattle.like_crew.specs.Server.{IsLogOf}
use Rattle.like_crew.proofs.Asked.{requests_of}
use Rattle.like_crew.proofs.Closing.{crew-outcome, outcome-as}
use Rattle.like_crew.proofs.Ending.{as-many}
use Rattle.like_crew.proofs.Makings.{all-small, map-twice}
use Rattle.like_run.specs.Script.{PlaysToEnd}
use Rattle.like_run.proofs.Entries.{can-make}
use Rattle.like_run.proofs.Long.{under-way}
use Rattle.like_run.proofs.Reported.{is-report}
use Rattle.like_run.proofs.rounds.replay_within.Goals as goal

pub sizes_of-requires : goal.sizes_of-requires
sizes_of-requires c =
    subst (λ (xs : List (Vec Request Global)). All (λ (plan : Vec Request Global). length plan.items ≤ max_requests) xs)
    (sym c.deref.ensures.value) (all-small c.args.setup.now c.args.plans.items c.requires.within)

pub new-requires-clause-sizes : goal.new-requires-clause-sizes
new-requires-clause-sizes c =
    c.deref-2.ensures.value ∙ c.in_ok-sizes.ensures
    ∙ ap (map (λ (plan : Vec Request Global). length plan.items)) c.deref.ensures.value
    ∙ map-twice requests_of length c.args.plans.items

pub play-requires-clause-script : goal.play-requires-clause-script
play-requires-clause-script c = λ k d within.
    can-make c.args.setup.now (lists_of c.args.plans.items) [] c.args.notes c.in_ok-crew.crew
    (get_or c.args.script.now k d) c.in_ok-crew.ensures.crew c.requires.within.0.0
    (subst (λ n. IsInRun c.args.setup.now.workers n (get_or c.args.script.now k d))
    (sym (length-map c.args.plans.items requests_of)) (c.requires.script k d within))

pub play-requires-clause-all : goal.play-requires-clause-all
play-requires-clause-all c =
    let crew = c.in_ok-crew.ensures.crew in
    as-many (workload_of c.args.setup.now (lists_of c.args.plans.items)) c.args.setup.now.workers [] c.args.notes
    c.in_ok-crew.crew.servers crew.servers
    ∙ sym (ap (λ (z : Opening). z.workers) crew.opening)

pub report_of-requires-clause-within : goal.report_of-requires-clause-within
report_of-requires-clause-within c =
    subst (λ (v : Vec (Vec Request Global) Global). IsWithinLimits c.args.setup.now (lists_of v.items))
    (sym c.of-lists.ensures) c.requires.within

pub report_of-requires-clause-sizes : goal.report_of-requires-clause-sizes
report_of-requires-clause-sizes c =
    subst (λ (v : Vec (Vec Request Global) Global). c.deref-2.result.now ≡ map length (lists_of v.items))
    (sym c.of-lists.ensures)
    (c.deref-2.ensures.value ∙ c.in_ok-sizes.ensures
    ∙ ap (map (λ (plan : Vec Request Global). length plan.items)) c.deref.ensures.value
    ∙ map-twice requests_of length c.args.plans.items)

pub report_of-requires-clause-outcome : goal.report_of-requires-clause-outcome
report_of-requires-clause-outcome c =
    let crew = c.in_ok-crew.crew in
    let outcome = c.in_ok-outcome.outcome in
    subst (λ (v : Vec (Vec Request Global) Global). IsOutcome (IsCrewOf c.args.setup.now (lists_of v.items) c.args.notes)
    outcome) (sym c.of-lists.ensures)
    (crew-outcome c.args.setup.now (lists_of c.args.plans.items) c.args.notes crew outcome c.in_ok-crew.ensures.crew
    (outcome-as (λ last. GoesOn crew last × PlaysToEnd c.args.script.now crew last) (GoesOn crew) outcome
    (λ last followed. followed.0) c.in_ok-outcome.ensures.script))

pub returns-clause-report : goal.returns-clause-report
returns-clause-report c =
    is-report c.args.setup.now (lists_of c.of-lists.result.value.items) (lists_of c.args.plans.items)
    c.args.notes c.args.notes c.in_ok-report_of.field-0
    (ap (λ (v : Vec (Vec Request Global) Global). lists_of v.items) c.of-lists.ensures) refl
    c.in_ok-report_of.ensures.report

pub returns-clause-follows : goal.returns-clause-follows
returns-clause-follows c =
    let followed = c.in_ok-outcome.ensures.script in
    record {
      start = c.in_ok-crew.crew;
      new = c.in_ok-crew.ensures.new;
      last = followed.crew;
      plays = followed.of.1;
      logs = subst (λ (logs : Vec WorkerLog Global). AllZip IsLogOf followed.crew.servers logs.items)
          (sym c.in_ok-report_of.ensures.logs) followed.logs;
      phase_is = c.in_ok-report_of.ensures.phases ∙ followed.phases;
      hot = ap (λ (chosen : Vec Chosen Global). chosen.items) c.in_ok-report_of.ensures.hot ∙ followed.chosen;
    }

pub returns-in_err-outcome-clause-fault : goal.returns-in_err-outcome-clause-fault
returns-in_err-outcome-clause-fault c =
    let p = err_from_is_err_and c.from_residual-in_err-outcome.result c.from_residual-in_err-outcome.ensures.1 in
    rw (p.1, p.2)
    (under-way c.args.setup.now (lists_of c.args.plans.items) c.args.script.now c.in_ok-crew.crew
    c.in_err-outcome.field-0.0 c.requires.within.0.0 c.in_ok-crew.ensures.new c.in_err-outcome.ensures.fault)
