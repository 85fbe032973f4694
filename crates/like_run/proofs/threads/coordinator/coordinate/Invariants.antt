use Rattle.like_roles.specs.coordinator.CoordTurns.{CoordinatorGoesOn}
use Rattle.like_run.proofs.threads.coordinator.coordinate.Given as goal

abbrev pub invariant-loop : goal.invariant-loop
invariant-loop g l = CoordinatorGoesOn l.initial.coordinator l.coordinator
