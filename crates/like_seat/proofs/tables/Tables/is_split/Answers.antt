use Rattle.std.proofs.Common.{sym, ◌∙◌}
use Rattle.like_seat.proofs.Keeping.{has_split-at_post}
use Rattle.like_seat.proofs.tables.Tables.is_split.Goals as goal

pub returns-clause-there : goal.returns-clause-there
returns-clause-there g c post kept is = ((kept.splits c.args.page).0 (sym c.has.ensures ∙ is)).1

pub returns-clause-at_post : goal.returns-clause-at_post
returns-clause-at_post g c post kept runs there =
    c.has.ensures ∙ has_split-at_post post c.args.self.now.slice c.args.page kept.splits runs there
