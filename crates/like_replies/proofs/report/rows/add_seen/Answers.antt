use Rattle.std.proofs.Common.{rules, append_assoc}
use Rattle.std.proofs.lemmas.Result.{IfOk-equal}
use Rattle.like_replies.proofs.rows.RowTexts.{seen-text}
use Rattle.like_replies.proofs.report.rows.add_seen.Goals as goal

pub returns : goal.returns
returns c =
    rw (seen-text c.args.names.now c.args.last c.args.count, ← c.text_of_last.ensures)
    (search (rules, IfOk-equal, append_assoc))
