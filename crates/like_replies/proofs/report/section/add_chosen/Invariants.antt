use Rattle.std.proofs.Common.{◌≡◌, ◌++◌}
use Rattle.like_replies.specs.Rows.{rows_text}
use Rattle.like_replies.proofs.rows.Texts.{hot_rows_below}
use Rattle.like_replies.proofs.report.section.add_chosen.Given as goal

abbrev pub invariant-loop-page : goal.invariant-loop-page
invariant-loop-page l = l.sheet ≡ l.initial.sheet ++ rows_text (hot_rows_below l.names l.chosen l.page)
