use Rattle.std.proofs.Common.{rules}
use Rattle.like_replies.proofs.rows.RowTexts.{liked-text}
use Rattle.like_replies.proofs.report.phase_texts.PhaseTexts.liked.Goals as goal

pub returns : goal.returns
returns c = λ pages. rw (liked-text pages) (search rules)
