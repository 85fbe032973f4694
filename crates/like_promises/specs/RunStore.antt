-- The store of a run.
use Rattle.std.specs.Prelude.{ℕ, ◌+◌, ◌≤◌, nat_lt, List, filter, None}
use Rattle.like_promises.specs.Store.{Store, after_all}
use Rattle.like_promises.specs.{Asked.asks, Likes.initial_count, Types.Ran, Workload.Workload}

-- the store at first: the initial counts, and no last likes
abbrev pub start : Workload → Store
start workload = record { count = initial_count workload.pages; last = λ user. None }

-- the store after these entries
abbrev pub store_after : Workload → List Ran → Store
store_after workload entries = after_all (start workload) (asks workload entries)

-- a page's count before a phase
abbrev pub count_at : Workload → List Ran → ℕ → ℕ → ℕ
count_at workload entries page phase =
    (store_after workload (filter (λ e. nat_lt e.phase phase) entries)).count page

-- between: at least the count before the phase and `before`; at most that before the next phase, less `after`
pub record Between (workload : Workload) (entries : List Ran) (phase page count before after : ℕ) : Type 0 where
  pub lower : count_at workload entries page phase + before ≤ count
  pub upper : count + after ≤ count_at workload entries page (phase + 1)
