-- Of two workers that each add to a page and then read the other's page, one at least reads the other's likes.
use Rattle.std.specs.Prelude.{◌≡◌, ◌⊎◌, ℕ, ◌+◌, ◌<◌, ◌≤◌, List, slice_get, Some}
use Rattle.like_core.specs.{PageSteps.AreInTurn, PageSteps.likes_of, Types.Add, Types.PageStep, Types.Read}

-- a worker's addition, and a read by which it later reads, by their places in the list of steps, the latest first
pub record AddsThenReads (steps : List PageStep) (addition reading : PageStep) : Type 0 where
  pub likes : ℕ
  pub added_at : ℕ
  pub read_at : ℕ
  pub added : slice_get steps added_at ≡ Some addition
  pub was_read : slice_get steps read_at ≡ Some reading
  pub later : read_at < added_at
  pub adds : addition.call ≡ Add likes
  pub reads : reading.call ≡ Read
  pub own : reading.worker ≡ addition.worker

-- a read shows at least what an addition left
abbrev pub ReadsLikes : PageStep → PageStep → Type 0
ReadsLikes reading addition = addition.found + likes_of addition.call ≤ reading.found

-- of steps in turn: if two workers each add to a page and then read the page to which the other added, one at least of
-- the reads shows the other's likes
abbrev pub OneSeesTheOther : Type 0
OneSeesTheOther =
    (first : ℕ → ℕ) (last : ℕ) (steps : List PageStep) (a r b q : PageStep)
    → AreInTurn first last steps → AddsThenReads steps a r → AddsThenReads steps b q
    → r.page ≡ b.page → q.page ≡ a.page → ReadsLikes r b ⊎ ReadsLikes q a
