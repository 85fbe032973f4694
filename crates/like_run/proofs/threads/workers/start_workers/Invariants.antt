use Rattle.std.proofs.Common.{◌≡◌, ◌≤◌, length, map, vec_capacity}
use Rattle.std.specs.List.{All}
use Rattle.like_run.proofs.threads.workers.start_workers.Given as goal

abbrev pub invariant-loop-server : goal.invariant-loop-server
invariant-loop-server g l = record {
  few : length l.threads.items ≤ l.most;
  room : vec_capacity l.threads ≡ vec_capacity l.initial.threads;
  told : All (λ thread. thread.promise.start.now.id ≡ l.shared.start.now.id) l.threads.items;
  servers : map (λ thread. thread.promise.server.value) l.threads.items ≡ l.yielded;
}
