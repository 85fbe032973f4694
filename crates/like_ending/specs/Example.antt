-- An example: one worker with one request.
use Rattle.std.specs.Prelude.{ℕ, Bool, false, [], ◌∷◌}
use Rattle.like_core.specs.Types.{Runs, WorkerState}
use Rattle.like_ending.specs.Schedules.{IsFreshRound, Unended}
use Rattle.like_ending.specs.{Laws.MayLast, Progress.AllAreGone, Progress.CrewProgress}

-- a crew of one worker in this state, with so many items to take and no look, whose coordinator counts no turns
abbrev pub alone : ℕ → Bool → WorkerState → ℕ → CrewProgress
alone phase ending state items = record {
  phase = phase;
  ending = ending;
  turns = 0;
  left = 0;
  workers = record { state = state; items = items; looks = 0 } ∷ [];
}

-- with a request and the end mark it may last nine rounds, if the worker is idle in split phases; 15 are within the
-- bound, and 16 are not
pub record OneRequestLasts : Type 0 where
  pub last : CrewProgress
  pub rounds : Unended IsFreshRound 9 (alone 0 false (Runs 0) 2) last
  pub ended : AllAreGone last
  pub within : MayLast 0 2 1 15
  pub beyond : ¬ MayLast 0 2 1 16
