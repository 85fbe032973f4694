use Rattle.std.proofs.Common.{ap, sym, subst, ◌∙◌}
use Rattle.like_core.specs.Post.{is_split_at, pages_of}
use Rattle.like_promises.proofs.Asked.{HasPageBelow, page-there}
use Rattle.like_promises.specs.Order.{must_wait}
use Rattle.like_roles.specs.worker.Judged.{IsJudged}
use Rattle.like_roles.proofs.worker.judged.Judged.waits.Goals as goal

pub returns-in-Look : goal.returns-in-Look
returns-in-Look c post kept runs there =
    let h = c.args.held.now in
    let share = c.args.tables.now.last.share in
    let is = subst (IsJudged share h) c.in-Look.is c.requires in
    c.is_split.ensures.at_post post kept runs
    (subst (HasPageBelow (pages_of post)) is
    (page-there share.users share.submitters h.submitter h.ask.request (pages_of post) there))
    ∙ ap (must_wait (is_split_at post)) (sym is)
