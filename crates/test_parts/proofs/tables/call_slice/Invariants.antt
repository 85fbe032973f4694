use Rattle.std.proofs.Common.{◌≡◌, length}
use Rattle.test_parts.proofs.tables.call_slice.Given as goal

abbrev pub invariant-loop-at : goal.invariant-loop-at
invariant-loop-at g l = length l.slice ≡ l.pages
