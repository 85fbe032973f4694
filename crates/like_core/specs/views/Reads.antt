-- What is true of the counts that workers and the coordinator read.
use Rattle.std.specs.Prelude.{◌≡◌, ℕ, ◌+◌, ◌≤◌, List, ◌∷◌, ◌++◌, slice_index}
use Rattle.like_core.specs.Types.{PageCount, PageStep, WorkerSeatView}
use Rattle.like_core.specs.{Additions.added_in, PageSteps.additions_among, PageSteps.likes_of}

-- a worker's step lies between what was added: `before` tells how much all have added to a page before a phase, `later`
-- are the worker's steps after this one, and `earlier` those before it
pub record IsBetween (counts : List ℕ) (before : ℕ → ℕ → ℕ) (later : List PageStep) (s : PageStep)
    (earlier : List PageStep) : Type 0 where
  -- it found the count at the start, all additions of earlier phases, and those that the worker made before in its phase
  pub least : slice_index counts s.page + before s.phase s.page
      + added_in s.phase s.page (additions_among earlier) ≤ s.found
  -- the count that it left has no addition of a later phase, and none that the worker made later in its phase
  pub most : s.found + likes_of s.call + added_in s.phase s.page (additions_among later)
      ≤ slice_index counts s.page + before (s.phase + 1) s.page

-- each step of a post does so, and none is of a later phase than this
abbrev pub HaveBetween : List ℕ → (ℕ → ℕ → ℕ) → ℕ → WorkerSeatView → Type 0
HaveBetween counts before phase v =
    (later : List PageStep) (s : PageStep) (earlier : List PageStep) → v.did ≡ later ++ s ∷ earlier
    → (s.phase ≤ phase) × IsBetween counts before later s earlier

-- a count that the coordinator read is the one at the start plus all that was added up to its phase
abbrev pub IsCounted : List ℕ → (ℕ → ℕ → ℕ) → PageCount → Type 0
IsCounted counts before r = r.count ≡ slice_index counts r.page + before (r.phase + 1) r.page
