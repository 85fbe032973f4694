use Rattle.std.proofs.Common.{◌-◌, ◌≤◌}
use Rattle.like_limits.specs.Buckets.{buckets}
use Rattle.like_tables.specs.SplitSlice.{HaveNoLikes, slice_by}
use Rattle.like_tables.proofs.bucket_counts.BucketCountsCounts.next_page.Given as goal

abbrev pub invariant-loop-page : goal.invariant-loop-page
invariant-loop-page l = record {
  after : l.from ≤ l.place;
  within : l.place ≤ buckets;
  none : HaveNoLikes (slice_by l.splits l.self-inside.counts) l.from l.place;
}

abbrev pub decreases-loop-page : goal.decreases-loop-page
decreases-loop-page l = buckets - l.place
