-- The numbers of which the table of events speaks.
use Rattle.std.specs.Prelude.{◌≡◌, ℕ, ◌+◌, ◌<◌, ◌↔◌, Bool, IsTrue}
use Rattle.like_limits.specs.Limits.{total_bound}
use Rattle.like_core.specs.Types.{Answered, CoordSight, Gone, Limits, Sight, WorkerState}
use Rattle.like_core.specs.{Functions.sum_below, Functions.update, Phase.split_by, WorkerState.IsIn, WorkerState.looked}

-- what the table of events speaks of
pub record Numbers : Type 0 where
  -- how many workers and pages there are
  pub workers : ℕ
  pub pages : ℕ
  -- which pages are marked as split
  pub marked : ℕ → Bool
  pub limits : Limits
  pub phase : ℕ
  -- whether the end of the phase was announced
  pub ending : Bool
  -- the mask of its hot pages
  pub hot : ℕ
  -- each worker's state
  pub state : ℕ → WorkerState
  -- how many unmerged likes a worker has of a page
  pub unmerged : ℕ → ℕ → ℕ
  -- each page's count
  pub count : ℕ → ℕ

-- worker i is in this state, and all else is the same
abbrev pub with_state : Numbers → ℕ → WorkerState → Numbers
with_state n i state = record n { state = update n.state i state }

-- worker i has this many unmerged likes of the page, and all else is the same
abbrev pub with_unmerged : Numbers → ℕ → ℕ → ℕ → Numbers
with_unmerged n i page likes =
    record n { unmerged = update n.unmerged i (update (n.unmerged i) page likes) }

-- worker i has looked, and all else is the same
abbrev pub with_look : Numbers → ℕ → Numbers
with_look n i = with_state n i (looked n.phase (n.state i))

-- worker i has one more unmerged like of the page, and all else is the same
abbrev pub with_like : Numbers → ℕ → ℕ → Numbers
with_like n i page = with_unmerged n i page (n.unmerged i page + 1)

-- the page's count has this many more likes, and all else is the same
abbrev pub with_more : Numbers → ℕ → ℕ → Numbers
with_more n page likes = record n { count = update n.count page (n.count page + likes) }

-- whether likes of the page go into slices in the present phase
abbrev pub splits : Numbers → ℕ → Bool
splits n page = split_by n.limits.hot n.marked (λ _. n.hot) n.phase page

-- the page's count and all its unmerged likes
abbrev pub total : Numbers → ℕ → ℕ
total n page = n.count page + sum_below (λ i. n.unmerged i page) n.workers

-- each page's total is below its bound
abbrev pub AreBounded : Numbers → Type 0
AreBounded n = (page : ℕ) → page < n.pages → total n page < total_bound

-- each worker has answered the present phase or is gone
abbrev pub AllIn : Numbers → Type 0
AllIn n = (i : ℕ) → i < n.workers → IsIn n.phase (n.state i)

-- each worker is gone
abbrev pub AllGone : Numbers → Type 0
AllGone n = (i : ℕ) → i < n.workers → n.state i ≡ Gone

-- what worker i sees by a look
pub record Sees (n : Numbers) (i : ℕ) (sight : Sight) : Type 0 where
  pub number : sight.number ≡ n.phase
  pub ending : sight.ending ≡ n.ending
  pub waits : IsTrue sight.waits ↔ (n.state i ≡ Answered n.phase)

-- what the coordinator sees by a look
pub record CoordSees (n : Numbers) (sight : CoordSight) : Type 0 where
  pub number : sight.number ≡ n.phase
  pub ending : sight.ending ≡ n.ending
  pub all_in : IsTrue sight.all_in ↔ AllIn n
  pub all_gone : IsTrue sight.all_gone ↔ AllGone n
