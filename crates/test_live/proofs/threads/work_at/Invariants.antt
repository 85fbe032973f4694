use Rattle.like_live.specs.LiveView.{IsSameSeat}
use Rattle.test_live.proofs.threads.work_at.Given as goal

abbrev pub invariant-loop : goal.invariant-loop
invariant-loop l = IsSameSeat l.initial.seat l.seat
