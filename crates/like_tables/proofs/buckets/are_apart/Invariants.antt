use Rattle.std.proofs.Common.{◌≡◌, length}
use Rattle.like_limits.specs.Buckets.{buckets}
use Rattle.like_tables.proofs.Apart.{AreMarked}
use Rattle.like_tables.proofs.buckets.are_apart.Given as goal

abbrev pub invariant-loop-page : goal.invariant-loop-page
invariant-loop-page l = record {
  all : length l.taken ≡ buckets;
  marked : AreMarked l.factor l.pages l.taken l.page-index;
}
