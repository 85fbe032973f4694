-- States with the likes that slices hold, and that events reach these too.
use Rattle.std.specs.Prelude.{◌≡◌, ℕ, ◌<◌, true, List, ◌++◌, length}
use Rattle.like_limits.specs.Limits.{total_bound}
use Rattle.like_core.specs.core.State.{CoreState, is_split_now, numbers}
use Rattle.like_core.specs.{Functions.times, Phase.IsJoined, core.Numbers.total, core.Reachable.Reachable}
use Rattle.like_core.specs.{Types.Opening, Types.Runs, core.Exclusive.NoneUnmerged}

-- each worker has more unmerged likes, of these pages
abbrev pub given : CoreState → (ℕ → List ℕ) → CoreState
given s more = record s { unmerged = λ i. s.unmerged i ++ more i }

-- workers may be given likes of these pages: whoever gets one runs the present phase, its page exists and is split in
-- that phase, and the totals stay below their bound
pub record MayLike (z : Opening) (s : CoreState) (more : ℕ → List ℕ) : Type 0 where
  pub runs : (i page : ℕ) → 0 < times page (more i) → s.state i ≡ Runs s.phase
  pub there : (i page : ℕ) → 0 < times page (more i) → page < length z.counts
  pub splits : (i page : ℕ) → 0 < times page (more i) → is_split_now z s page ≡ true
  pub totals : (page : ℕ) → total (numbers z (given s more)) page < total_bound

-- a state that is reached in this way stays so with unmerged likes of split pages at workers that run the phase
abbrev pub LikesStay : (Opening → CoreState → Type 0) → Type 0
LikesStay Reach =
    (z : Opening) (s : CoreState) (more : ℕ → List ℕ) → Reach z s → MayLike z s more → Reach z (given s more)

-- in a state that can be reached, with any likes that slices may hold, no worker has an unmerged like while one runs a
-- joined phase
abbrev pub NoneHoldsWhileJoined : Type 0
NoneHoldsWhileJoined =
    (z : Opening) (s : CoreState) (more : ℕ → List ℕ) → Reachable z s → MayLike z s more
    → (i phase : ℕ) → s.state i ≡ Runs phase → IsJoined phase → NoneUnmerged (given s more)
