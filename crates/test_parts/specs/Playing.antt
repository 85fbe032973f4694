-- What the tests know of a worker that they play with, which has one submitter at most.
use Rattle.std.specs.Prelude.{◌≡◌, ℕ, ◌+◌, ◌≤◌, ◌==◌, List, length, count_by, All, slice_get, slice_index, Some, None}
use Rattle.like_limits.specs.Limits.{max_requests}
use Rattle.like_requests.specs.{Setup.IsThere, Types.Ask, Types.End, Types.Nothing, Types.Request, Types.Taken}
use Rattle.like_core.specs.Post.{pages_of}
use Rattle.like_roles.specs.worker.WorkerView.{WorkerView, submitter_at}

-- the first `next` requests of the plan were taken, and the rest are left where the submitter is the worker's
pub record IsAt (plan : List Request) (next : ℕ) (v : WorkerView) : Type 0 where
  pub one : length v.ended ≤ 1
  pub taken : count_by (λ t. t.submitter == submitter_at v 0) v.taken ≡ next
  pub left : 1 ≤ length v.ended → next + slice_index v.left 0 ≡ length plan
  pub few : length plan ≤ max_requests
  pub there : All (λ r. IsThere (pages_of v.post) r.page) plan

-- the worker is there in the plan, and tries no submitter
pub record IsPlaying (plan : List Request) (next : ℕ) (v : WorkerView) : Type 0 where
  pub at : IsAt plan next v
  pub settled : v.pending ≡ None

-- what is given when `next` requests of the plan were taken, and how many were taken then
abbrev pub IsNextGiven : List Request → ℕ → Taken → ℕ → Type 0
IsNextGiven plan next (Ask ask) then =
    (slice_get plan next ≡ Some ask.request) × (ask.number ≡ next + 1) × (then ≡ next + 1)
IsNextGiven plan next End then = then ≡ next
IsNextGiven plan next Nothing then = ⊥
