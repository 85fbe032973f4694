-- Which pages a slice has likes of.
use Rattle.std.specs.Prelude.{◌≡◌, ◌≢◌, ℕ, ◌<◌, ◌≤◌, List, length, slice_index}

-- no page from `from` on and below `end` has a like
abbrev pub AreUnliked : List ℕ → ℕ → ℕ → Type 0
AreUnliked likes from end = (page : ℕ) → from ≤ page → page < end → slice_index likes page ≡ 0

-- the page is the least from `from` on that has a like
pub record IsNextLiked (likes : List ℕ) (from page : ℕ) : Type 0 where
  pub after : from ≤ page
  pub there : page < length likes
  pub liked : slice_index likes page ≢ 0
  pub least : AreUnliked likes from page
