-- A set of pages, as a bit for each page in words of 64.
use Rattle.std.specs.Prelude.{◌≡◌, ◌≢◌, ℕ, ◌/◌, ◌%◌, ◌<◌, ◌≤◌, List, length, slice_index_or}
use Rattle.std.specs.Int.{bit_at}

-- 1 where the page is in the set, else 0
abbrev pub bit_of : List ℕ → ℕ → ℕ
bit_of words page = bit_at (slice_index_or words (page / 64) 0) (page % 64)

-- the page's bit is this afterwards, and each other is as before
pub record SetsBit (page bit : ℕ) (old new : List ℕ) : Type 0 where
  pub len : length new ≡ length old
  pub here : bit_of new page ≡ bit
  pub others : (other : ℕ) → other ≢ page → bit_of new other ≡ bit_of old other

-- no page from `from` on and below `end` is in the set
abbrev pub HasNone : List ℕ → ℕ → ℕ → Type 0
HasNone words from end = (page : ℕ) → from ≤ page → page < end → bit_of words page ≡ 0

-- the page is the least from `from` on that is in the set
pub record IsNextIn (words : List ℕ) (from page : ℕ) : Type 0 where
  pub after : from ≤ page
  pub inside : bit_of words page ≡ 1
  pub least : HasNone words from page
