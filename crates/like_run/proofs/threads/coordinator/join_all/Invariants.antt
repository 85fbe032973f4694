use Rattle.std.proofs.Common.{◌≡◌, map, vec_capacity}
use Rattle.like_crew.specs.Ended.{HaveLeft}
use Rattle.like_run.proofs.threads.coordinator.join_all.Given as goal

abbrev pub invariant-loop-thread : goal.invariant-loop-thread
invariant-loop-thread g l = record {
  logs_room : vec_capacity l.logs ≡ vec_capacity l.initial.logs;
  seats_room : vec_capacity l.seats ≡ vec_capacity l.initial.seats;
  left : HaveLeft (map (λ thread. thread.promise.server.value) l.yielded) l.logs.items l.seats.items;
}
