use Rattle.std.proofs.Common.{◌<◌, ◌^◌, ◌∙◌, arith, rules}
use Rattle.like_core.proofs.PhaseMasks.{is_hot-narrow}
use Rattle.like_core.proofs.pure_core.Core.is_split.Goals as goal

pub returns-else-index : goal.returns-else-index
returns-else-index c =
    let core = c.args.self.now in
    let narrow : core.hot < 2 ^ 64 = omega arith in
    c.is_hot.ensures
    ∙ (is_hot-narrow core.limits.hot core.hot c.args.page core.lawful.hot narrow ∙ search rules)
