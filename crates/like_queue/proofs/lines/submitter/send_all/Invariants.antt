use Rattle.std.proofs.Common.{◌≡◌}
use Rattle.like_queue.proofs.lines.submitter.send_all.Given as goal

abbrev pub invariant-loop-sent : goal.invariant-loop-sent
invariant-loop-sent g l = (l.end.sent ≡ l.sent) × (l.end.line ≡ l.initial.end.line)
