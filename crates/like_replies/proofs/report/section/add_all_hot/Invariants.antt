use Rattle.std.proofs.Common.{◌≡◌, ◌++◌, take}
use Rattle.like_replies.specs.Rows.{hot_rows, rows_text}
use Rattle.like_replies.proofs.report.section.add_all_hot.Given as goal

abbrev pub invariant-loop-chosen : goal.invariant-loop-chosen
invariant-loop-chosen l = l.sheet ≡ l.initial.sheet ++ rows_text (hot_rows l.names (take l.chosen-index l.hot))
