use Rattle.std.proofs.Common.{◌≡◌, length}
use Rattle.like_replies.proofs.report.sheets.sheets_with.Given as goal

abbrev pub invariant-loop-sheet : goal.invariant-loop-sheet
invariant-loop-sheet l = length l.sheets.items ≡ l._sheet
