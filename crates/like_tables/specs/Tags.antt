-- How the split pages are kept: as a number for each bucket, and the set of the buckets that hold a page.
use Rattle.std.specs.Prelude.{◌≡◌, ℕ, ◌*◌, ◌^◌, ◌<◌, ◌≤◌, ◌==◌, if◌then◌else◌, Bool, List, length, map, slice_index, Option, Some, None}
use Rattle.std.specs.List.{range_with_len}
use Rattle.like_limits.specs.Buckets.{bucket, buckets}
use Rattle.like_tables.specs.{PageSet.bit_of, SplitPages.SplitPages}

-- whether a bucket's number is a page that belongs there
abbrev pub is_taken : ℕ → List ℕ → ℕ → Bool
is_taken factor tags b = bucket factor (slice_index tags b) == b

-- the page that a bucket's number is, if it is one that belongs there
abbrev pub page_at : ℕ → List ℕ → ℕ → Option ℕ
page_at factor tags b = if is_taken factor tags b then Some (slice_index tags b) else None

-- the number of an empty bucket: page 0 is in bucket 0, and page 1 is not
abbrev pub empty_tag : ℕ → ℕ
empty_tag b = if b == 0 then 1 else 0

-- the table that the numbers make
abbrev pub table_by : ℕ → List ℕ → SplitPages
table_by factor tags = record {
  factor = factor;
  pages = map (page_at factor tags) (range_with_len 0 (length tags));
}

-- with the factor page 1 is not in bucket 0; each bucket has a number; and those whose number is a page are in the set
pub record AreTags (factor : ℕ) (tags used : List ℕ) : Type 0 where
  pub least : 2 ^ 22 ≤ factor
  pub below : factor < 2 ^ 32
  pub all : length tags ≡ buckets
  pub room : 64 * length used ≡ buckets
  pub taken : (b : ℕ) → b < buckets → bit_of used b ≡ (if is_taken factor tags b then 1 else 0)
