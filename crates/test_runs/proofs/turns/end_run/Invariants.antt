use Rattle.like_crew.specs.Crew.{GoesOn}
use Rattle.test_runs.proofs.turns.end_run.Given as goal

abbrev pub invariant-loop : goal.invariant-loop
invariant-loop g l = GoesOn l.initial.crew l.crew
