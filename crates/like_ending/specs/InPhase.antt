-- What is so at the start, and after each turn.
use Rattle.std.specs.Prelude.{◌≡◌, ◌⊎◌, ℕ, ◌+◌, ◌<◌, ◌≤◌, Bool, true, All}
use Rattle.like_core.specs.{Phase.last_phase, Types.Answered, Types.Gone, Types.Runs, Types.WorkerState}
use Rattle.like_ending.specs.Progress.{CrewProgress}

-- a worker's state suits the phase: who runs a phase runs the present one; who has answered one has answered the
-- present one, if it is ending, or the one before
abbrev pub SuitsPhase : ℕ → Bool → WorkerState → Type 0
SuitsPhase phase ending (Runs j) = j ≡ phase
SuitsPhase phase ending (Answered j) = ((j ≡ phase) × (ending ≡ true)) ⊎ (j + 1 ≡ phase)
SuitsPhase phase ending Gone = Unit {0}

-- each worker's state suits the phase; that has no more turns left than a phase has in all; and the last phase is never
-- ending
pub record IsCrewInPhase (c : CrewProgress) : Type 0 where
  pub suits : All (λ w. SuitsPhase c.phase c.ending w.state) c.workers
  pub left : c.left ≤ c.turns
  pub within : c.phase ≤ last_phase
  pub last : c.ending ≡ true → c.phase < last_phase
