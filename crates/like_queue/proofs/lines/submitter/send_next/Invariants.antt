use Rattle.std.proofs.Common.{◌≡◌}
use Rattle.like_queue.proofs.lines.submitter.send_next.Given as goal

abbrev pub invariant-loop : goal.invariant-loop
invariant-loop g l = l.end ≡ l.initial.end
