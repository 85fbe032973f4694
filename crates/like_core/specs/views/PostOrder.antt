-- One order of all that some posts made; and what follows from it.
use Rattle.std.specs.Prelude.{◌≡◌, ℕ, ◌==◌, ◌<◌, ◌≤◌, All, List, [], count_by, slice_index, sum_by}
use Rattle.like_core.specs.PageSteps.{AreInTurn, additions_among, stretches_of}
use Rattle.like_core.specs.views.Places.{ArePlaced, AreTiles, Counting}
use Rattle.like_core.specs.views.Posts.{last_count, posts_added, posts_before, posts_of}
use Rattle.like_core.specs.{Log.PhasesRise, Log.logged_by, Log.steps_in, Types.LogEntry, Types.Opening}
use Rattle.like_core.specs.{Types.WorkerSeatView, views.Order.HasMade, views.Reads.HaveBetween, views.Shows.Moment}

-- one order of all that these posts made, the latest entry first: each step at a page found what those before it left;
-- phases never fall, and none is later than this; what each post made are its worker's entries, with their numbers; no
-- worker has two posts, and one without a post has no entry
pub record IsOrderOf (first : ℕ → ℕ) (phase : ℕ) (posts : List WorkerSeatView) (log : List LogEntry) : Type 0 where
  pub in_turn : AreInTurn first phase (steps_in log)
  pub rising : PhasesRise phase log
  pub each : All (HasMade log) posts
  pub once : (i : ℕ) → count_by (λ v. v.worker == i) posts ≤ 1
  pub others : (i : ℕ) → count_by (λ v. v.worker == i) posts ≡ 0 → logged_by i log ≡ []

-- how many additions of posts pass a test
abbrev pub posts_passing : List WorkerSeatView → Counting
posts_passing posts test = sum_by (λ v. count_by test (additions_among v.did)) posts

-- the stretches of all additions of posts tile each page's counts, from the first to the last, and the calls of each post
-- have their places
pub record HavePlaces (first : ℕ → ℕ) (posts : List WorkerSeatView) : Type 0 where
  pub tiles : AreTiles first (last_count first posts) (posts_passing posts)
  pub each : All (λ v. ArePlaced first (posts_passing posts) (stretches_of v.did)) posts

-- the law of bounds: each step lies between what all have added
abbrev pub OrderGivesBounds : Type 0
OrderGivesBounds =
    (counts : List ℕ) (phase : ℕ) (posts : List WorkerSeatView) (log : List LogEntry)
    → IsOrderOf (slice_index counts) phase posts log
    → All (HaveBetween counts (posts_before posts) phase) posts

-- the law of places: stretches tile, and calls have their places
abbrev pub OrderGivesPlaces : Type 0
OrderGivesPlaces =
    (first : ℕ → ℕ) (phase : ℕ) (posts : List WorkerSeatView) (log : List LogEntry)
    → IsOrderOf first phase posts log → HavePlaces first posts

-- nothing was added in a later phase
abbrev pub OrderGivesPast : Type 0
OrderGivesPast =
    (first : ℕ → ℕ) (phase later page : ℕ) (posts : List WorkerSeatView) (log : List LogEntry)
    → IsOrderOf first phase posts log → phase < later
    → posts_before posts later page ≡ posts_added posts page

-- all that was made up to a moment has one order, so at each moment all this holds
abbrev pub MomentsAreOrdered : Type 0
MomentsAreOrdered =
    (z : Opening) (m : Moment z) → IsOrderOf (slice_index z.counts) m.shown.state.phase (posts_of m.views) m.shown.log
