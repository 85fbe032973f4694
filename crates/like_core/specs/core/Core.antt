-- The core that is stepped, and the states for which it stands.
use Rattle.std.specs.Prelude.{◌≡◌, List, fold}
use Rattle.like_core.specs.{Types.Event, Types.Opening, core.Exclusive.IsExclusive, core.Exclusive.IsInPhase}
use Rattle.like_core.specs.{core.Kept.kept, core.Numbers.Numbers, core.Reachable.Reachable, core.State.CoreState}
use Rattle.like_core.specs.{core.State.after, core.State.numbers, core.State.start, declared.pure_core.Core.Core}

-- the numbers that a core keeps
abbrev pub numbers_of : Core → Numbers
numbers_of core =
    kept core.limits core.phase core.ending core.hot core.states.items core.unmerged.items core.counts
    core.marks.items

-- the core stands for a state: it has the numbers of that state
abbrev pub StandsFor : Core → Opening → CoreState → Type 0
StandsFor core z s = numbers_of core ≡ numbers z s

-- the core stands for some state that can be reached
pub record IsReachable (core : Core) (z : Opening) : Type 0 where
  pub state : CoreState
  pub stands : StandsFor core z state
  pub reachable : Reachable z state

-- if the old core stands for a state, the new one stands for the state after these events, one after the other
abbrev pub TakesStates : Core → Core → List Event → Type 0
TakesStates old new events =
    (z : Opening) (s : CoreState) → StandsFor old z s → StandsFor new z (fold (after z) s events)

-- if the old core stands for a state that can be reached, so does the new one
abbrev pub KeepsReachable : Core → Core → Type 0
KeepsReachable old new = (z : Opening) → IsReachable old z → IsReachable new z

-- if the core stands for a state that can be reached, each state that it stands for is exclusive and in phase
abbrev pub IsCoreExclusive : Core → Type 0
IsCoreExclusive core =
    (z : Opening) (s : CoreState) → IsReachable core z → StandsFor core z s
    → IsExclusive s × IsInPhase z s
