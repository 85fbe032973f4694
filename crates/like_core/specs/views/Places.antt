-- The stretches of additions: each has the counts from the one that it found up to, but not including, the one it left.
-- What is true of them.
use Rattle.std.specs.Prelude.{◌≡◌, ◌⊎◌, ℕ, ◌+◌, ◌≤◌, ◌==◌, ◌&&◌, nat_le, nat_lt, All, AllPairs, Bool, if◌then◌else◌, List, slice_index}
use Rattle.like_core.specs.{Types.Addition, Types.View, views.Posts.last_count, views.Posts.posts_of}

-- the count that an addition left: where its stretch ends
abbrev pub end_of : Addition → ℕ
end_of a = a.old + a.likes

-- whether a number is in the stretch of an addition to the page
abbrev pub covers : ℕ → ℕ → Addition → Bool
covers page n a = (a.page == page) && nat_le a.old n && nat_lt n (end_of a)

-- whether the stretch of an addition to the page ends at a count
abbrev pub ends_at : ℕ → ℕ → Addition → Bool
ends_at page count a = (a.page == page) && (end_of a == count)

-- whether it has no number
abbrev pub is_empty : Addition → Bool
is_empty a = a.likes == 0

-- a way to count the additions that pass a test
abbrev pub Counting : Type 0
Counting = (Addition → Bool) → ℕ

-- the stretches of each page tile its counts: each number from the first count to below the last is in exactly one of
-- them, each other number is in none, and no stretch is empty
pub record AreTiles (first last : ℕ → ℕ) (counting : Counting) : Type 0 where
  pub tiled : (page n : ℕ)
      → counting (covers page n)
      ≡ (if nat_le (first page) n && nat_lt n (last page) then 1 else 0)
  pub some : counting is_empty ≡ 0

-- a count of a page is the first one, or the end of a stretch
abbrev pub IsEnd : (ℕ → ℕ) → Counting → ℕ → ℕ → Type 0
IsEnd first counting page count = (count ≡ first page) ⊎ (1 ≤ counting (ends_at page count))

-- calls, each with its stretch, find counts in order: each begins at or behind the end of each before it at its page;
-- and each found the first count or the end of a stretch
pub record ArePlaced (first : ℕ → ℕ) (counting : Counting) (calls : List Addition) : Type 0 where
  pub ends : All (λ c. IsEnd first counting c.page c.old) calls
  pub order : AllPairs (λ b c. c.page ≡ b.page → end_of b ≤ c.old) calls

-- a page's count after all additions of the views, with these counts at the start
abbrev pub count_after : List ℕ → List View → ℕ → ℕ
count_after counts views = last_count (slice_index counts) (posts_of views)
