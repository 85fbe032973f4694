use Rattle.std.proofs.Common.{rules, append_assoc}
use Rattle.std.proofs.lemmas.Result.{IfOk-equal}
use Rattle.like_replies.proofs.rows.RowTexts.{hot-text}
use Rattle.like_replies.proofs.report.rows.add_hot.Goals as goal

pub returns : goal.returns
returns c = rw (hot-text c.args.names.now c.args.phase c.args.page) (search (rules, IfOk-equal, append_assoc))
