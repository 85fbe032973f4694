-- How far a crew is.
use Rattle.std.specs.Prelude.{◌≡◌, ℕ, ◌+◌, Bool, false, List, All, sum_by}
use Rattle.like_core.specs.{Types.Gone, Types.Runs, Types.WorkerState, WorkerState.IsIn}

-- how far a worker is: its state, how many items of its submitters (requests and end marks) it has yet to take, and how
-- many looks it holds
pub record WorkerProgress : Type 0 where
  pub state : WorkerState
  pub items : ℕ
  pub looks : ℕ

-- how far a crew is: the phase, and whether it is ending; how many turns the coordinator counts in each phase, and how
-- many of them the present phase has left; and its workers
pub record CrewProgress : Type 0 where
  pub phase : ℕ
  pub ending : Bool
  pub turns : ℕ
  pub left : ℕ
  pub workers : List WorkerProgress

-- 1 until the worker is gone
abbrev pub one_until_gone : WorkerState → ℕ
one_until_gone Gone = 0
one_until_gone _ = 1

-- what is left of a worker: its items, its looks, and 1 until it is gone
abbrev pub remaining : WorkerProgress → ℕ
remaining w = w.items + w.looks + one_until_gone w.state

-- what is left of a crew
abbrev pub remaining_in : CrewProgress → ℕ
remaining_in c = sum_by remaining c.workers

-- how many items the workers of a crew have yet to take
abbrev pub items_in : CrewProgress → ℕ
items_in c = sum_by (λ w. w.items) c.workers

-- all workers are in: each has answered the phase or is gone
abbrev pub AllAreIn : CrewProgress → Type 0
AllAreIn c = All (λ w. IsIn c.phase w.state) c.workers

-- all workers are gone, and so the run has ended
abbrev pub AllAreGone : CrewProgress → Type 0
AllAreGone c = All (λ w. w.state ≡ Gone) c.workers

-- the start: each worker runs phase 0 and holds no look, and phase 0 has all its turns left
pub record IsStart (c : CrewProgress) : Type 0 where
  pub phase : c.phase ≡ 0
  pub ending : c.ending ≡ false
  pub left : c.left ≡ c.turns
  pub runs : All (λ w. w.state ≡ Runs 0) c.workers
  pub none : All (λ w. w.looks ≡ 0) c.workers
