use Rattle.std.proofs.Common.{◌≡◌, ℕ, ◌<◌, length, slice_index}
use Rattle.like_limits.specs.Buckets.{buckets}
use Rattle.like_tables.specs.Tags.{empty_tag}
use Rattle.like_tables.proofs.split_pages.empty_tags.Given as goal

abbrev pub invariant-loop-bucket : goal.invariant-loop-bucket
invariant-loop-bucket l = record {
  all : length l.tags ≡ buckets;
  each : (b : ℕ) → b < l.bucket → slice_index l.tags b ≡ empty_tag b;
}
