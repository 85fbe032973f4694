use Rattle.std.proofs.Common.{take}
use Rattle.like_crew.specs.Crew.{GoesOn}
use Rattle.like_crew.specs.Steps.{MakesAll}
use Rattle.like_run.proofs.rounds.make_all.Given as goal

abbrev pub invariant-loop-entry : goal.invariant-loop-entry
invariant-loop-entry l = record {
  makes : MakesAll (take l.entry-index l.script) l.initial.crew l.crew;
  goes_on : GoesOn l.initial.crew l.crew;
}
