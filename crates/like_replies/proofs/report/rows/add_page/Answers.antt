use Rattle.std.proofs.Common.{rules, append_assoc}
use Rattle.std.proofs.lemmas.Result.{IfOk-equal}
use Rattle.like_replies.proofs.rows.RowTexts.{page-text}
use Rattle.like_replies.proofs.report.rows.add_page.Goals as goal

pub returns : goal.returns
returns c = rw (page-text c.args.names.now c.args.page c.args.count) (search (rules, IfOk-equal, append_assoc))
