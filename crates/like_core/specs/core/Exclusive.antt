-- Exclusion: while a worker runs a joined phase, nobody has unmerged likes.
use Rattle.std.specs.Prelude.{◌≡◌, ℕ, ◌+◌, ◌<◌, ◌≤◌, ◌⊎◌, true, []}
use Rattle.like_core.specs.Types.{Answered, Gone, Opening, Runs}
use Rattle.like_core.specs.{Phase.IsJoined, Phase.IsSplit, core.State.CoreState}

-- no worker has unmerged likes
abbrev pub NoneUnmerged : CoreState → Type 0
NoneUnmerged s = (i : ℕ) → s.unmerged i ≡ []

-- no worker runs a split phase
abbrev pub NoneRunsSplit : CoreState → Type 0
NoneRunsSplit s = (i phase : ℕ) → s.state i ≡ Runs phase → ¬ IsSplit phase

-- while some worker runs a joined phase, no worker has unmerged likes and none runs a split phase
abbrev pub IsExclusive : CoreState → Type 0
IsExclusive s =
    (i phase : ℕ) → s.state i ≡ Runs phase → IsJoined phase → NoneUnmerged s × NoneRunsSplit s

-- the state is in phase: what each event keeps, and what makes it exclusive
pub record IsInPhase (z : Opening) (s : CoreState) : Type 0 where
  -- who runs a phase runs the present one
  pub runs : (i phase : ℕ) → s.state i ≡ Runs phase → phase ≡ s.phase
  -- who has answered a phase has answered the present one or the one before
  pub answered : (i phase : ℕ) → s.state i ≡ Answered phase
      → (phase ≡ s.phase) ⊎ (phase + 1 ≡ s.phase)
  -- who has unmerged likes runs the present phase, and that is split
  pub unmerged : (i : ℕ) → (s.unmerged i ≡ []) ⊎ ((s.state i ≡ Runs s.phase) × IsSplit s.phase)
  -- a number that is no worker's is gone
  pub outside : (i : ℕ) → z.workers ≤ i → s.state i ≡ Gone
  pub within : s.phase ≤ z.limits.last_phase
  -- the last phase is never ending
  pub last : s.ending ≡ true → s.phase < z.limits.last_phase

-- every state that is reached in this way is exclusive, and in phase
abbrev pub AreExclusive : (Opening → CoreState → Type 0) → Type 0
AreExclusive Reach = (z : Opening) (s : CoreState) → Reach z s → IsExclusive s × IsInPhase z s
