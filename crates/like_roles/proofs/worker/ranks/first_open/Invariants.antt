use Rattle.std.proofs.Common.{◌≡◌, ℕ, ◌<◌, ◌≤◌, true, slice_index_or}
use Rattle.like_roles.proofs.worker.ranks.first_open.Given as goal

abbrev pub invariant-loop-rank : goal.invariant-loop-rank
invariant-loop-rank l = (other : ℕ) → l.from ≤ other → other < l.rank → slice_index_or l.ended other true ≡ true
