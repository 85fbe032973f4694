use Rattle.std.proofs.Common.{◌≡◌, ◌∙◌, sym, ap, subst}
use Rattle.std.specs.Prelude.{IfOk}
use Rattle.like_core.specs.declared.opening.Opening.{Opening}
use Rattle.like_crew.specs.Crew.{GoesOn}
use Rattle.like_crew.specs.Outcome.{IsOutcome}
use Rattle.like_crew.specs.Server.{ServerGoesOn}
use Rattle.like_crew.proofs.Closing.{outcome-as}
use Rattle.like_crew.proofs.Coordinated.{crew-further}
use Rattle.like_crew.proofs.lists.Pairs.{pairs-length}
use Rattle.test_runs.proofs.turns.play.Goals as goal

pub finish-requires-clause-all : goal.finish-requires-clause-all
finish-requires-clause-all g c =
    let first = c.args.crew in
    let last = c.end_run.new.crew in
    let on : GoesOn first last =
    crew-further first c.answers_of-words.new.crew last c.answers_of-words.ensures c.end_run.ensures.goes_on in
    sym (pairs-length ServerGoesOn first.servers last.servers on.servers) ∙ c.requires.all
    ∙ sym (ap (λ (z : Opening). z.workers) on.coordinator.opening)

pub finish-requires-clause-ended : goal.finish-requires-clause-ended
finish-requires-clause-ended g c = c.end_run.ensures.ended

pub returns : goal.returns
returns g c =
    let last = c.end_run.new.crew in
    outcome-as (λ crew. crew ≡ last) (GoesOn c.args.crew) _
    (λ crew same. subst (GoesOn c.args.crew) (sym same)
    (crew-further c.args.crew c.answers_of-words.new.crew last c.answers_of-words.ensures c.end_run.ensures.goes_on))
    (subst (λ r. IfOk r (IsOutcome (λ crew. crew ≡ last))) c.expect-outcome.ensures c.finish.ensures)
