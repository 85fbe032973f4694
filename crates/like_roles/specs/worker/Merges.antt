-- The merge of a slice in the order of the pages.
use Rattle.std.specs.Prelude.{◌≡◌, ℕ, ◌==◌, not, filter, List, map, slice_index, All}
use Rattle.std.specs.List.{range_with_len}
use Rattle.like_core.specs.Types.{Addition}

-- the pages below a number that a slice has likes of, in order
abbrev pub liked_below : List ℕ → ℕ → List ℕ
liked_below slice pages = filter (λ page. not (slice_index slice page == 0)) (range_with_len 0 pages)

-- additions merge the first pages of a slice in a phase: they are to the pages that it has likes of, in order; each has
-- all the likes of its page; and each is of the phase
pub record Merges (phase : ℕ) (slice : List ℕ) (pages : ℕ) (adds : List Addition) : Type 0 where
  pub pages_are : map (λ a. a.page) adds ≡ liked_below slice pages
  pub likes_are : All (λ a. a.likes ≡ slice_index slice a.page) adds
  pub phase_is : All (λ a. a.phase ≡ phase) adds
