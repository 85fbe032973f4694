-- A worker's state: which phase it runs or has answered, and what a look makes of that.
use Rattle.std.specs.Prelude.{◌≡◌, ℕ, ◌+◌, ◌%◌, ◌≤◌, nat_lt, true, false, if◌then◌else◌, Option, IfSome, IsSomeAnd, MatchBool}
use Rattle.like_core.specs.Phase.{IsJoined, IsSplit}
use Rattle.like_core.specs.Types.{Answered, Gone, Runs, Sight, WorkerState}

-- the worker has answered this phase, or is gone
abbrev pub IsIn : ℕ → WorkerState → Type 0
IsIn phase (Runs j) = ⊥
IsIn phase (Answered j) = j ≡ phase
IsIn phase Gone = Unit {0}

-- the worker's state after a look at this phase: one that answered an earlier phase now runs this one
abbrev pub looked : ℕ → WorkerState → WorkerState
looked phase (Answered j) = (if nat_lt j phase then Runs phase else Answered j)
looked phase state = state

-- the worker runs a phase, and P holds of it
abbrev pub RunsSome : (ℕ → Type 0) → WorkerState → Type 0
RunsSome P (Runs phase) = P phase
RunsSome P _ = ⊥

-- the worker runs a phase
abbrev pub IsRunning : WorkerState → Type 0
IsRunning s = RunsSome (λ _. Unit {0}) s

-- the worker runs a joined phase
abbrev pub RunsJoined : WorkerState → Type 0
RunsJoined s = RunsSome IsJoined s

-- the worker runs a split phase
abbrev pub RunsSplit : WorkerState → Type 0
RunsSplit s = RunsSome IsSplit s

-- 1 if the phase that it has answered last is odd, and 0 if it is even. A worker that runs a phase has answered the one
-- before
abbrev pub turn_of : WorkerState → ℕ
turn_of (Runs phase) = (phase + 1) % 2
turn_of (Answered phase) = phase % 2
turn_of Gone = 1

-- the phase that the worker runs or has answered
abbrev pub phase_of : WorkerState → ℕ
phase_of (Runs phase) = phase
phase_of (Answered phase) = phase
phase_of Gone = 0

-- what a worker in this state can see: one that runs a phase sees that phase; one that has answered a phase sees that
-- phase and waits, or sees the next and runs it
abbrev pub IsSightOf : WorkerState → Sight → Type 0
IsSightOf (Runs phase) sight = (sight.number ≡ phase) × (sight.waits ≡ false)
IsSightOf (Answered phase) sight =
    MatchBool sight.waits (sight.number ≡ phase) (sight.number ≡ phase + 1)
IsSightOf Gone sight = ⊥

-- the worker's state after a sight
abbrev pub seen : WorkerState → Sight → WorkerState
seen (Answered phase) sight = (if sight.waits then Answered phase else Runs (phase + 1))
seen state sight = state

-- what a worker sees that runs this phase, which isn't ending
abbrev pub running_sight : ℕ → Sight
running_sight phase = record { number = phase; ending = false; waits = false }

-- no look showed a greater number than this phase
abbrev pub SawNoLater : ℕ → Option Sight → Type 0
SawNoLater phase last = IfSome last (λ sight. sight.number ≤ phase)

-- there was a look, and the last showed that the end of the phase was announced
abbrev pub SawEnding : Option Sight → Type 0
SawEnding last = IsSomeAnd last (λ sight. sight.ending ≡ true)

-- the end of a phase that the worker runs stays announced: who saw it sees it again
abbrev pub SeesEndingStill : WorkerState → Option Sight → Sight → Type 0
SeesEndingStill state last sight = IsRunning state → SawEnding last → sight.ending ≡ true
