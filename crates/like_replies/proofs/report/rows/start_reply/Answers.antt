use Rattle.std.proofs.Common.{rules, append_assoc}
use Rattle.like_replies.proofs.rows.RowTexts.{start-text}
use Rattle.like_replies.proofs.report.rows.start_reply.Goals as goal

pub returns-clause-start : goal.returns-clause-start
returns-clause-start c = rw (start-text c.args.submitter) (search (rules, append_assoc))
