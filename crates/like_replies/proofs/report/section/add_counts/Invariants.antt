use Rattle.std.proofs.Common.{◌≡◌, ◌++◌, take}
use Rattle.like_replies.specs.Rows.{page_rows, rows_text}
use Rattle.like_replies.proofs.report.section.add_counts.Given as goal

abbrev pub invariant-loop-page : goal.invariant-loop-page
invariant-loop-page l = l.sheet ≡ l.initial.sheet ++ rows_text (page_rows l.names (take l.page l.counts))
