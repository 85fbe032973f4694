use Rattle.std.proofs.Common.{◌≡◌, ◌∙◌, ap, not, true}
use Rattle.std.specs.Result.{is_ok}
use Rattle.like_files.proofs.Planned.{added-plan}
use Rattle.like_files.proofs.plans.add_plan.Goals as goal

pub returns-clause-added : goal.returns-clause-added
returns-clause-added c =
    let pushed : is_ok c.push.result ≡ true = c.is_err.ensures.negation ∙ ap not c.if-is_err.false in
    added-plan c.args.answer c.in-Ok.plan c.args.plans.now.items _ c.in-Ok.is
    (rw pushed at c.push.ensures.items)
