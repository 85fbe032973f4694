use Rattle.std.proofs.Common.{◌≡◌, ◌-◌, ◌≤◌}
use Rattle.like_limits.specs.Buckets.{buckets}
use Rattle.like_tables.specs.Tags.{AreTags}
use Rattle.like_tables.proofs.Tagged.{AreEmpty}
use Rattle.like_tables.proofs.split_pages.SplitPages.clear.Given as goal

abbrev pub invariant-loop-bucket : goal.invariant-loop-bucket
invariant-loop-bucket l = record {
  within : l.from ≤ buckets;
  factor : l.self-inside.factor ≡ l.fn.self.factor;
  tags : AreTags l.self-inside.factor l.self-inside.tags l.self-inside.used;
  empty : AreEmpty l.self-inside.factor l.self-inside.tags l.from;
}

abbrev pub decreases-loop-bucket : goal.decreases-loop-bucket
decreases-loop-bucket l = buckets - l.from
