use Rattle.std.proofs.Common.{rules, append_assoc}
use Rattle.std.proofs.lemmas.Result.{IfOk-equal}
use Rattle.like_replies.proofs.rows.RowTexts.{place_start-text}
use Rattle.like_replies.proofs.report.rows.start_place.Goals as goal

pub returns : goal.returns
returns c = rw (place_start-text c.args.page c.args.place.now) (search (rules, IfOk-equal, append_assoc))
