-- Workers at a moment of a run's board, which is between any two atomic steps.
use Rattle.std.specs.Prelude.{◌≡◌, ℕ, ◌<◌, List, slice_index}
use Rattle.like_core.specs.{Functions.times, OpeningLimits.run_limits, Types.Opening, WorkerState.RunsJoined}
use Rattle.like_core.specs.{WorkerState.RunsSplit, core.Likes.given, core.Reachable.Reachable, views.Shows.Moment}
use Rattle.like_seat.specs.{Moments.IsPostAt, StationView.IsSliceInSplit, StationView.IsStation}
use Rattle.like_roles.specs.worker.WorkerView.{WorkerView, station_of}

-- at a moment worker i has this many likes of a page in its slice
pub record HoldsAt (z : Opening) (m : Moment z) (i page likes : ℕ) : Type 0 where
  pub of : WorkerView
  pub at : IsPostAt z m of.post
  pub station : IsStation (station_of of)
  pub worker : of.post.worker ≡ i
  pub slice : slice_index of.slice page ≡ likes

-- these likes are in the workers' slices at a moment, by worker
abbrev pub AreHeldAt : (z : Opening) → Moment z → (ℕ → List ℕ) → Type 0
AreHeldAt z m held =
    (i page : ℕ) → 0 < times page (held i) → HoldsAt z m i page (times page (held i))

-- events lead to the state that a moment shows with the likes in the workers' slices; and while one worker runs a joined
-- phase, no worker runs a split one, and none has a like in its slice
pub record IsExclusiveAt (z : Opening) (m : Moment z) : Type 0 where
  pub reachable : (held : ℕ → List ℕ) → AreHeldAt z m held → Reachable z (given m.shown.state held)
  pub none : (a b : WorkerView) → IsPostAt z m a.post → IsPostAt z m b.post → IsSliceInSplit b.post b.slice
      → RunsJoined a.post.state
      → ¬ RunsSplit b.post.state × ((page : ℕ) → slice_index b.slice page ≡ 0)

-- exclusion: so it is at each moment of a run's board
abbrev pub WorkersAreExclusive : Type 0
WorkersAreExclusive = (z : Opening) (m : Moment z) → z.limits ≡ run_limits → IsExclusiveAt z m
