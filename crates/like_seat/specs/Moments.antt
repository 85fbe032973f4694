-- Posts at a moment of their board, which is between any two atomic steps.
use Rattle.std.specs.Prelude.{◌≡◌, ℕ, List, slice_index}
use lib.ListN.{get_elem?}
use mathlib.Core.Option.{some}
use Rattle.like_core.specs.Types.{Opening, Worker, WorkerSeatView}
use Rattle.like_core.specs.{WorkerState.RunsJoined, WorkerState.RunsSplit, views.Shows.Moment}
use Rattle.like_seat.specs.StationView.{IsSliceInSplit}

-- a post at a moment: a worker's seat knows this there
pub record IsPostAt (z : Opening) (m : Moment z) (at : WorkerSeatView) : Type 0 where
  pub place : ℕ
  pub there : get_elem? m.views place ≡ some (Worker at)

-- exclusion: at any moment, while one post runs a joined phase, no post runs a split one, and none has a like in its
-- slice
abbrev pub PostsAreExclusive : Type 0
PostsAreExclusive =
    (z : Opening) (m : Moment z) (a b : WorkerSeatView) (slice : List ℕ) → IsPostAt z m a → IsPostAt z m b
    → IsSliceInSplit b slice → RunsJoined a.state
    → ¬ RunsSplit b.state × ((page : ℕ) → slice_index slice page ≡ 0)
