use Rattle.std.proofs.Common.{◌≡◌, ◌≤◌, ◌∙◌, ℕ, All, List, [], true, Vec, Global, get_or, length, map, sym, ap, subst}
use Rattle.std.specs.Prelude.{IfOk}
use Rattle.std.proofs.lemmas.List.{length-map}
use Rattle.like_limits.specs.Limits.{max_requests}
use Rattle.like_requests.specs.Setup.{IsWithinLimits}
use Rattle.like_requests.specs.declared.request.Request.{Request}
use Rattle.like_requests.specs.Script.{IsInRun}
use Rattle.like_core.specs.declared.opening.Opening.{Opening}
use Rattle.like_promises.specs.Workload.{lists_of, workload_of}
use Rattle.like_crew.specs.Crew.{IsCrewAt, IsCrewOf}
use Rattle.like_crew.specs.Outcome.{IsOutcome}
use Rattle.like_crew.proofs.Asked.{requests_of}
use Rattle.like_crew.proofs.Closing.{crew-outcome}
use Rattle.like_crew.proofs.Ending.{as-many}
use Rattle.like_crew.proofs.Makings.{all-small, map-twice}
use Rattle.like_run.proofs.Entries.{can-make}
use Rattle.test_runs.proofs.turns.answers_within.Goals as goal

pub sizes_of-requires : goal.sizes_of-requires
sizes_of-requires g c =
    subst (λ (xs : List (Vec Request Global)). All (λ (plan : Vec Request Global). length plan.items ≤ max_requests) xs)
    (sym c.deref.ensures.value) (all-small c.args.setup.now c.args.plans.items c.requires.within)

pub new-requires-clause-sizes : goal.new-requires-clause-sizes
new-requires-clause-sizes g c =
    c.deref-2.ensures.value
    ∙ subst (λ r. IfOk r (λ (sizes : Vec ℕ Global). sizes.items ≡ map (λ (plan : Vec Request Global). length plan.items)
    c.deref.result.now)) c.expect-sizes.ensures c.sizes_of.ensures
    ∙ ap (map (λ (plan : Vec Request Global). length plan.items)) c.deref.ensures.value
    ∙ map-twice requests_of length c.args.plans.items

pub play-words-requires-clause-script : goal.play-words-requires-clause-script
play-words-requires-clause-script g c = λ k d within.
    can-make c.args.setup.now (lists_of c.args.plans.items) [] true c.expect-crew.result (get_or c.args.script.now k d)
    (subst (λ r. IfOk r (IsCrewAt c.args.setup.now (lists_of c.args.plans.items) [] true)) c.expect-crew.ensures
    c.new.ensures.crew) c.requires.within.0.0
    (subst (λ n. IsInRun c.args.setup.now.workers n (get_or c.args.script.now k d))
    (sym (length-map c.args.plans.items requests_of)) (c.requires.script k d within))

pub play-words-requires-clause-all : goal.play-words-requires-clause-all
play-words-requires-clause-all g c =
    let crew = subst (λ r. IfOk r (IsCrewAt c.args.setup.now (lists_of c.args.plans.items) [] true))
    c.expect-crew.ensures c.new.ensures.crew in
    as-many (workload_of c.args.setup.now (lists_of c.args.plans.items)) c.args.setup.now.workers [] true
    c.expect-crew.result.servers crew.servers
    ∙ sym (ap (λ (z : Opening). z.workers) crew.opening)

pub report_of-requires-clause-within : goal.report_of-requires-clause-within
report_of-requires-clause-within g c =
    subst (λ (v : Vec (Vec Request Global) Global). IsWithinLimits c.args.setup.now (lists_of v.items))
    (sym c.of-lists.ensures) c.requires.within

pub report_of-requires-clause-sizes : goal.report_of-requires-clause-sizes
report_of-requires-clause-sizes g c =
    subst (λ (v : Vec (Vec Request Global) Global). c.deref-2.result.now ≡ map length (lists_of v.items))
    (sym c.of-lists.ensures)
    (c.deref-2.ensures.value
    ∙ subst (λ r. IfOk r (λ (sizes : Vec ℕ Global). sizes.items ≡ map (λ (plan : Vec Request Global). length plan.items)
    c.deref.result.now)) c.expect-sizes.ensures c.sizes_of.ensures
    ∙ ap (map (λ (plan : Vec Request Global). length plan.items)) c.deref.ensures.value
    ∙ map-twice requests_of length c.args.plans.items)

pub report_of-requires-clause-outcome : goal.report_of-requires-clause-outcome
report_of-requires-clause-outcome g c =
    let crew = subst (λ r. IfOk r (IsCrewAt c.args.setup.now (lists_of c.args.plans.items) [] true))
    c.expect-crew.ensures c.new.ensures.crew in
    subst (λ (v : Vec (Vec Request Global) Global). IsOutcome (IsCrewOf c.args.setup.now (lists_of v.items) true)
    c.play-words.result.1) (sym c.of-lists.ensures)
    (crew-outcome c.args.setup.now (lists_of c.args.plans.items) true c.expect-crew.result
    c.play-words.result.1 crew c.play-words.ensures)
