use Rattle.std.proofs.Common.{◌∙◌, List, Vec, Global, map, subst}
use Rattle.std.specs.List.{All}
use Rattle.std.specs.Prelude.{MatchResult}
use Rattle.like_requests.specs.Setup.{IsFirstBroken, IsWithinLimits}
use Rattle.like_requests.specs.declared.request.Request.{Request}
use Rattle.like_requests.specs.Script.{IsFirstAway, IsInRun}
use Rattle.test_runs.proofs.turns.answers.Goals as goal

abbrev requests_of : Vec Request Global → List Request
requests_of plan = plan.items

pub answers_within-requires-clause-within : goal.answers_within-requires-clause-within
answers_within-requires-clause-within g c =
    subst (λ (xs : List (Vec Request Global)). IsWithinLimits c.args.setup.now (map requests_of xs))
    c.deref.ensures.value
    (subst (λ r. MatchResult r (λ _. IsWithinLimits c.args.setup.now (map requests_of c.deref.result.now))
    (IsFirstBroken c.args.setup.now (map requests_of c.deref.result.now))) c.expect.ensures c.check_setup.ensures)

pub answers_within-requires-clause-script : goal.answers_within-requires-clause-script
answers_within-requires-clause-script g c =
    subst (λ n. All (IsInRun c.args.setup.now.workers n) c.args.script.now)
    (c.len.ensures ∙ c.args.plans.ok.0)
    (subst (λ r. MatchResult r (λ _. All (IsInRun c.args.setup.now.workers c.len.result) c.args.script.now)
    (IsFirstAway c.args.setup.now.workers c.len.result c.args.script.now)) c.expect-2.ensures c.check_script.ensures)
