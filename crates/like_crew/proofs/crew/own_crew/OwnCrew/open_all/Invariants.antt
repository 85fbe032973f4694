use Rattle.std.proofs.Common.{◌≡◌, length}
use Rattle.like_crew.specs.Crew.{GoesOn}
use Rattle.like_crew.specs.ServerTurns.{OpensAll}
use Rattle.like_crew.proofs.lists.Stepped.{Stepped}
use Rattle.like_crew.proofs.crew.own_crew.OwnCrew.open_all.Given as goal

abbrev pub invariant-loop-worker : goal.invariant-loop-worker
invariant-loop-worker l = record {
  workers : l.workers ≡ length l.initial.self.servers;
  opened : Stepped OpensAll l.initial.self.servers l.self.servers l.worker;
  rest : l.self.coordinator ≡ l.initial.self.coordinator;
  goes_on : GoesOn l.initial.self l.self;
}
