use Rattle.std.proofs.Common.{rules, append_assoc}
use Rattle.like_replies.proofs.rows.RowTexts.{phase-text}
use Rattle.like_replies.proofs.report.phase_texts.phase_and.Goals as goal

pub returns : goal.returns
returns c = rw (phase-text c.args.phase) (search (rules, append_assoc))
