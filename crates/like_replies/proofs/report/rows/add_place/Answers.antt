use Rattle.std.proofs.Common.{rules, append_assoc}
use Rattle.std.proofs.lemmas.Result.{IfOk-equal}
use Rattle.like_replies.proofs.rows.RowTexts.{place-text}
use Rattle.like_replies.proofs.report.rows.add_place.Goals as goal

pub returns : goal.returns
returns c = rw (place-text c.args.names.now c.args.page c.args.place.now) (search (rules, IfOk-equal, append_assoc))
