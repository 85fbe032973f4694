-- A worker's slice of its split pages.
use Rattle.std.specs.Prelude.{◌≡◌, ◌≢◌, ℕ, ◌<◌, ◌≤◌, if◌then◌else◌, Bool, true, List, length, map, replicate, slice_index, slice_set, Some, None}
use Rattle.std.specs.List.{range_with_len}
use Rattle.like_limits.specs.Buckets.{bucket}
use Rattle.like_tables.specs.SplitPages.{AreSplitPages, SplitPages, is_split, none_split, page_in, with_page}

-- which pages are split, and how many likes it has of the page in each bucket
pub record SplitSlice : Type 0 where
  pub splits : SplitPages
  pub counts : List ℕ

-- of these split pages, with these numbers
abbrev pub slice_by : SplitPages → List ℕ → SplitSlice
slice_by splits counts = record { splits = splits; counts = counts }

-- the bucket of a page
abbrev pub bucket_in : SplitSlice → ℕ → ℕ
bucket_in s page = bucket s.splits.factor page

-- whether a page is split
abbrev pub has_split : SplitSlice → ℕ → Bool
has_split s page = is_split s.splits page

-- how many likes it has of a page: none of a page that is not split
abbrev pub likes_in : SplitSlice → ℕ → ℕ
likes_in s page = if has_split s page then slice_index s.counts (bucket_in s page) else 0

-- how many likes it has of each of this many pages
abbrev pub by_page : SplitSlice → ℕ → List ℕ
by_page s pages = map (likes_in s) (range_with_len 0 pages)

-- what is true of every slice: it has a number for each page that is split, and no like where a bucket holds no page
pub record IsSplitSlice (s : SplitSlice) : Type 0 where
  pub pages : AreSplitPages s.splits
  pub there : (b page : ℕ) → page_in s.splits b ≡ Some page → b < length s.counts
  pub empty : (b : ℕ) → page_in s.splits b ≡ None → slice_index s.counts b ≡ 0

-- the slice by a factor that has no split page, and so many numbers
abbrev pub no_slice : ℕ → ℕ → SplitSlice
no_slice factor many = record { splits = none_split factor; counts = replicate many 0 }

-- it has a number for each of the first so many pages
abbrev pub HasNumbers : SplitSlice → ℕ → Type 0
HasNumbers s pages = (page : ℕ) → page < pages → bucket_in s page < length s.counts

-- one more page is split
abbrev pub with_split : SplitSlice → ℕ → SplitSlice
with_split s page = record s { splits = with_page s.splits page }

-- a page has this many likes
abbrev pub with_likes : SplitSlice → ℕ → ℕ → SplitSlice
with_likes s page likes = record s { counts = slice_set s.counts (bucket_in s page) likes }

-- no page with its bucket from `from` on and below `end` has a like
abbrev pub HaveNoLikes : SplitSlice → ℕ → ℕ → Type 0
HaveNoLikes s from end = (page : ℕ) → from ≤ bucket_in s page → bucket_in s page < end → likes_in s page ≡ 0

-- the page is in the first bucket from `from` on whose page has a like
pub record IsNextLiked (s : SplitSlice) (from page : ℕ) : Type 0 where
  pub after : from ≤ bucket_in s page
  pub split : has_split s page ≡ true
  pub liked : likes_in s page ≢ 0
  pub first : HaveNoLikes s from (bucket_in s page)
