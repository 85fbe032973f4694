-- Which pages are split in the phase that a worker runs.
use Rattle.std.specs.Prelude.{◌≡◌, ℕ, ◌^◌, ◌<◌, ◌≤◌, ◌==◌, Bool, true, false, List, length, replicate, slice_index_or, slice_set, Option, Some, None}
use Rattle.like_limits.specs.Buckets.{bucket, buckets}

-- the factor of the buckets, and the page that each bucket holds, if any
pub record SplitPages : Type 0 where
  pub factor : ℕ
  pub pages : List (Option ℕ)

-- the page that a bucket holds, if any
abbrev pub page_in : SplitPages → ℕ → Option ℕ
page_in s bucket = slice_index_or s.pages bucket None

-- what the bucket of a page holds: that page, another one, or none
abbrev pub beside : SplitPages → ℕ → Option ℕ
beside s page = page_in s (bucket s.factor page)

-- whether this is the page
abbrev pub is_page : ℕ → Option ℕ → Bool
is_page page None = false
is_page page (Some other) = other == page

-- whether a page is split: its bucket holds it
abbrev pub is_split : SplitPages → ℕ → Bool
is_split s page = is_page page (beside s page)

-- what is true of every table: there are 1,024 buckets, and each page is in its own
pub record AreSplitPages (s : SplitPages) : Type 0 where
  pub factor : s.factor < 2 ^ 32
  pub all : length s.pages ≡ buckets
  pub own : (b page : ℕ) → page_in s b ≡ Some page → bucket s.factor page ≡ b

-- the page may be split: no other page is in its bucket
abbrev pub MayPut : SplitPages → ℕ → Type 0
MayPut s page = (other : ℕ) → beside s page ≡ Some other → other ≡ page

-- the table by a factor in which no page is split
abbrev pub none_split : ℕ → SplitPages
none_split factor = record { factor = factor; pages = replicate buckets None }

-- one more page is split
abbrev pub with_page : SplitPages → ℕ → SplitPages
with_page s page = record s { pages = slice_set s.pages (bucket s.factor page) (Some page) }

-- no bucket from `from` on and below `end` holds a page
abbrev pub HoldNone : SplitPages → ℕ → ℕ → Type 0
HoldNone s from end = (b : ℕ) → from ≤ b → b < end → page_in s b ≡ None

-- the page is in the first bucket from `from` on that holds a page
pub record IsNextSplit (s : SplitPages) (from page : ℕ) : Type 0 where
  pub after : from ≤ bucket s.factor page
  pub split : is_split s page ≡ true
  pub first : HoldNone s from (bucket s.factor page)
