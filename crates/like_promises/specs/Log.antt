-- What the log of a worker has to say.
use Rattle.std.specs.Prelude.{◌≡◌, ℕ, ◌≤◌, ◌==◌, if◌then◌else◌, List, [], length, map, filter, slice_index_or, AllPairs}
use Rattle.std.specs.List.{range_with_len}
use Rattle.like_tables.specs.{Share.worker_of, UserTable.last_of}
use Rattle.like_promises.specs.{Order.entry_of, Order.is_due, Order.order, RunStore.store_after, Workload.Workload}
use Rattle.like_promises.specs.{Replies.HasRightAnswers, Types.Took, Types.WorkerLog}

-- the numbers of the requests that were taken from a submitter, in their order
abbrev pub numbers_taken : ℕ → List Took → List ℕ
numbers_taken submitter taken = map (λ t. t.number) (filter (λ t. t.submitter == submitter) taken)

-- a worker took the requests of its submitters' plans, each once and in order, and no others
abbrev pub TakesPlans : Workload → ℕ → ℕ → List Took → Type 0
TakesPlans workload workers worker taken = (submitter : ℕ) →
    let plan = slice_index_or workload.plans submitter [] in
    numbers_taken submitter taken
    ≡ (if worker_of workers submitter == worker then range_with_len 1 (length plan) else [])

-- a worker's log: it took its submitters' plans, in phases that never fall, ran them in run order, and answered right
pub record IsLog (workload : Workload) (workers worker : ℕ) (log : WorkerLog) : Type 0 where
  pub taken : TakesPlans workload workers worker log.taken.items
  pub rising : AllPairs (λ s t. s.phase ≤ t.phase) log.taken.items
  pub ran : map entry_of log.ran.items ≡ order workload log.taken.items
  pub stashed : (phase : ℕ) → length (filter (is_due workload phase) log.taken.items) ≤ workload.stash
  pub answers : HasRightAnswers workload log.ran.items
  pub last : (user : ℕ) → last_of log.last user ≡ (store_after workload log.ran.items).last user
