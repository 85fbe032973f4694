-- What a worker's station is, as contracts see it.
use Rattle.std.specs.Prelude.{◌≡◌, ◌≢◌, ℕ, ◌+◌, ◌≤◌, false, true, List, length, slice_index, sum}
use Rattle.like_limits.specs.Buckets.{run_factor}
use Rattle.like_core.specs.{Additions.all_added, OpeningLimits.AreLimits, OpeningLimits.has_slots}
use Rattle.like_core.specs.{PageSteps.additions_among, PhaseMasks.HasMask, Post.additions_of, Post.is_split_at}
use Rattle.like_core.specs.{Post.pages_of, Types.WorkerSeatView, WorkerState.RunsSplit, WorkerState.phase_of}
use Rattle.like_tables.specs.{StashView.IsStash, StashView.StashView, UserTable.UserTable}
use Rattle.like_seat.specs.SlicedLike.{SlicedLike}

-- the numbers that tell its board from others; its post; its stash, which is its backlog in a joined phase; its slice,
-- a number for each page; all likes that ever went into its slice, in order; and the last likes of its users
pub record StationView (W : Type 0) : Type 0 where
  pub board : List ℕ
  pub post : WorkerSeatView
  pub stash : StashView W
  pub slice : List ℕ
  pub sliced : List SlicedLike
  pub last : UserTable

-- the phase that it runs or has answered
abbrev pub phase_at : {W : Type 0} → StationView W → ℕ
phase_at s = phase_of s.post.state

-- how many likes it has counted: what it has added, and its slice
abbrev pub likes_of : {W : Type 0} → StationView W → ℕ
likes_of s = all_added (additions_among s.post.did) + sum s.slice

-- how many likes of a page
abbrev pub tally_of : {W : Type 0} → StationView W → ℕ → ℕ
tally_of s page = additions_of s.post page + slice_index s.slice page

-- in a split phase the post has read the phase's mask
abbrev pub HasPhaseMask : WorkerSeatView → Type 0
HasPhaseMask post = RunsSplit post.state → HasMask (phase_of post.state) post.masks

-- a slice that is not empty belongs to a worker that runs a split phase, and has pages that are split in it alone
abbrev pub IsSliceInSplit : WorkerSeatView → List ℕ → Type 0
IsSliceInSplit post slice =
    (page : ℕ) → slice_index slice page ≢ 0 → RunsSplit post.state × (is_split_at post page ≡ true)

-- what is true of every post, and what waits and is in a slice beside it: its board's limits are lawful, and its pages and
-- its phase are within them; in a run page i has bucket i; the slice has a number for each page; at most as many likes were
-- counted as a worker may add; and no more waits than there is room for
pub record IsStationOf {W : Type 0} (post : WorkerSeatView) (stash : StashView W) (slice : List ℕ) : Type 0 where
  pub few_pages : pages_of post ≤ post.opening.limits.pages
  pub limits : AreLimits post.opening.limits
  pub factor : has_slots post.opening.limits ≡ false → post.opening.factor ≡ run_factor
  pub within : phase_of post.state ≤ post.opening.limits.last_phase
  pub sized : length slice ≡ pages_of post
  pub masked : HasPhaseMask post
  pub split : IsSliceInSplit post slice
  pub few : all_added (additions_among post.did) + sum slice ≤ post.opening.limits.likes
  pub waiting : IsStash stash

-- what is true of every station: of its post, its stash and its slice
abbrev pub IsStation : {W : Type 0} → StationView W → Type 0
IsStation s = IsStationOf s.post s.stash s.slice
