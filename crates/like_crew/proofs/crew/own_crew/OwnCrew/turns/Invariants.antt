use Rattle.std.proofs.Common.{◌≡◌, ◌↔◌, ◌<◌, ℕ, true, length, get_or, map}
use Rattle.std.specs.List.{range_with_len}
use Rattle.like_requests.specs.declared.script.Turned.TheVariants.{Worker}
use Rattle.like_core.specs.declared.worker_state.WorkerState.TheVariants.{Gone}
use Rattle.like_crew.specs.Crew.{GoesOn}
use Rattle.like_crew.specs.Server.{ServerView}
use Rattle.like_crew.specs.Steps.{MakesAll}
use Rattle.like_crew.proofs.crew.own_crew.OwnCrew.turns.Given as goal

abbrev pub invariant-loop-worker : goal.invariant-loop-worker
invariant-loop-worker l = record {
  workers : l.workers ≡ length l.initial.self.servers;
  servers : length l.self.servers ≡ length l.initial.self.servers;
  turned : MakesAll (map Worker (range_with_len 0 l.worker)) l.initial.self l.self;
  rest : l.self.coordinator ≡ l.initial.self.coordinator;
  goes_on : GoesOn l.initial.self l.self;
  gone : (l.gone ≡ true) ↔ ((k : ℕ) (d : ServerView) → k < l.worker
      → (get_or l.self.servers k d).worker.post.state ≡ Gone);
}
