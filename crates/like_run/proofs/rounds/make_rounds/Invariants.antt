use Rattle.like_crew.specs.Crew.{GoesOn}
use Rattle.like_run.specs.Script.{MakesRounds}
use Rattle.like_run.proofs.rounds.make_rounds.Given as goal

abbrev pub invariant-loop : goal.invariant-loop
invariant-loop l = record {
  rounds : MakesRounds l.counter l.initial.crew l.crew;
  goes_on : GoesOn l.initial.crew l.crew;
}
