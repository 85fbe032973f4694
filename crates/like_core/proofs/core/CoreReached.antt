-- A core that is stepped from a new one stands for reachable states.
use Rattle.std.proofs.Common.{◌≡◌, List, [], ◌∷◌, fold, subst, sym, ◌∙◌}
use Rattle.like_core.specs.declared.event.Event.{Event}
use Rattle.like_core.specs.declared.opening.Opening.{Opening}
use Rattle.like_core.specs.declared.pure_core.Core.{Core}
use Rattle.like_core.specs.core.Numbers.{Numbers}
use Rattle.like_core.specs.core.Table.{Permits, next}
use Rattle.like_core.specs.core.State.{CoreState, start, after, numbers}
use Rattle.like_core.specs.core.Reachable.{PermitsAll, Reachable}
use Rattle.like_core.specs.Functions.{MayAll}
use Rattle.like_core.specs.core.Exclusive.{AreExclusive}
use Rattle.like_core.specs.core.Core.{numbers_of, StandsFor, IsReachable, KeepsReachable, IsCoreExclusive}
use Rattle.like_core.proofs.core.NumbersAfter.{numbers-after}
use Rattle.like_core.proofs.core.EventLists.{takes_states_all}
use Rattle.like_core.proofs.core.Reached.{start_reached, goes_on}
use Rattle.like_core.proofs.core.InPhase.{exclusive, reached_in_phase, in_phase_alike}

-- every state that can be reached is exclusive, and in phase
pub reachable_is_exclusive : AreExclusive Reachable
reachable_is_exclusive z s r = let p = reached_in_phase z s r in (exclusive z s p, p)

-- events that the numbers of a state permit are permitted in the state
pub PermitsAll_from_each : (z : Opening) (s : CoreState) (events : List Event)
    → MayAll next Permits (numbers z s) events
    → PermitsAll z s events
PermitsAll_from_each z s [] may = tt
PermitsAll_from_each z s (event ∷ events) may =
    let then_may = subst (λ (n : Numbers). MayAll next Permits n events) (sym (numbers-after z s event)) may.1 in
    (may.0, PermitsAll_from_each z (after z s event) events then_may)

-- a core that stands for the start stands for a state that can be reached
pub starts_reachable : (core : Core) (z : Opening) → StandsFor core z (start z) → IsReachable core z
starts_reachable core z stands = record { state = start z; stands = stands; reachable = start_reached z }

-- permitted events keep a core reachable
pub keeps_reachable_all : (old new : Core) (events : List Event)
    → MayAll next Permits (numbers_of old) events
    → numbers_of new ≡ fold next (numbers_of old) events
    → KeepsReachable old new
keeps_reachable_all old new events may now z r =
    let may_in = subst (λ (n : Numbers). MayAll next Permits n events) r.stands may in
    record {
      state = fold (after z) r.state events;
      stands = takes_states_all old new events now z r.state r.stands;
      reachable = goes_on z r.state events r.reachable (PermitsAll_from_each z r.state events may_in);
    }

-- one permitted event keeps a core reachable
pub keeps_reachable : (old new : Core) (event : Event)
    → Permits (numbers_of old) event
    → numbers_of new ≡ next (numbers_of old) event
    → KeepsReachable old new
keeps_reachable old new event may now = keeps_reachable_all old new (event ∷ []) (may, tt) now

-- each state for which a reachable core stands is exclusive
pub core_is_exclusive : (core : Core) → IsCoreExclusive core
core_is_exclusive core z s r stands =
    let p = in_phase_alike z r.state s (sym r.stands ∙ stands) (reached_in_phase z r.state r.reachable) in
    (exclusive z s p, p)
