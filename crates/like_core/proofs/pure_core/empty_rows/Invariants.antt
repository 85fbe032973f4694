use Rattle.std.proofs.Common.{◌≡◌, replicate}
use Rattle.like_core.proofs.pure_core.empty_rows.Given as goal

abbrev pub invariant-loop : goal.invariant-loop
invariant-loop l = l.rows.items ≡ replicate l.counter (replicate l.pages 0)
