use Rattle.like_live.specs.Driver.{IsSameDriver}
use Rattle.test_live.proofs.threads.drive.Given as goal

abbrev pub invariant-loop : goal.invariant-loop
invariant-loop l = IsSameDriver l.initial.driver l.driver
