use Rattle.like_crew.specs.Crew.{GoesOn}
use Rattle.test_runs.proofs.turns.answers_of.Given as goal

abbrev pub invariant-loop-entry : goal.invariant-loop-entry
invariant-loop-entry g l = GoesOn l.initial.crew l.crew
