use Rattle.std.proofs.Common.{◌≡◌, ◌≤◌, length, vec_capacity}
use Rattle.like_run.proofs.threads.submitters.start_submitters.Given as goal

abbrev pub invariant-loop-end : goal.invariant-loop-end
invariant-loop-end g l = record {
  few : length l.threads.items ≤ l.most;
  room : vec_capacity l.threads ≡ vec_capacity l.initial.threads;
  many : length l.threads.items ≡ length l.yielded;
}
