use Rattle.std.proofs.Common.{◌≡◌}
use Rattle.test_parts.proofs.tables.call_users.Given as goal

abbrev pub invariant-loop-at : goal.invariant-loop-at
invariant-loop-at g l = l.users.share ≡ l.initial.users.share
