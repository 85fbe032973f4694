-- Why a worker needs no more of a phase word than its kind.
use Rattle.std.specs.Prelude.{◌≡◌, ◌≢◌, ℕ, ◌+◌, ◌/◌, ◌%◌, ◌==◌, if◌then◌else◌}
use Rattle.like_core.specs.Types.{Answered, Gone, Opening, Runs, WorkerState}
use Rattle.like_core.specs.{core.Moves.Reached, core.State.CoreState, word.ShownWord.shown_word}

-- the phase that a word of this kind tells a worker in this state. If it has answered phase j, that is j if the kind is
-- split and j is, or neither is; otherwise it is j + 1
abbrev pub phase_told : ℕ → WorkerState → ℕ
phase_told kind (Runs j) = j
phase_told kind (Answered j) = (if kind / 2 == j % 2 then j else j + 1)
phase_told kind Gone = 0

-- in each state that can be reached, the kind of the phase word tells each worker that is not gone the present phase
abbrev pub KindTellsPhase : Type 0
KindTellsPhase =
    (z : Opening) (s : CoreState) (i : ℕ) → Reached z s → s.state i ≢ Gone
    → phase_told (shown_word z s % 4) (s.state i) ≡ s.phase
