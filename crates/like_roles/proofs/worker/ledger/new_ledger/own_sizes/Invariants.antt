use Rattle.std.proofs.Common.{◌≡◌, ℕ, ◌+◌, ◌-◌, ◌*◌, ◌<◌, ◌≤◌, get_or, length, sum}
use Rattle.like_roles.proofs.worker.ledger.new_ledger.own_sizes.Given as goal

abbrev pub invariant-loop-submitter : goal.invariant-loop-submitter
invariant-loop-submitter l = record {
  at : l.submitter ≡ l.worker + l.workers * length l.own.items;
  each : (rank : ℕ) → rank < length l.own.items
      → get_or l.own.items rank 0 ≡ get_or l.sizes (l.worker + l.workers * rank) 0;
  there : (rank : ℕ) → rank < length l.own.items → l.worker + l.workers * rank < length l.sizes;
  short : length l.own.items ≤ length l.sizes;
  few : sum l.own.items ≤ 1000000 * length l.own.items;
}

abbrev pub decreases-loop-submitter : goal.decreases-loop-submitter
decreases-loop-submitter l = length l.sizes - l.submitter
