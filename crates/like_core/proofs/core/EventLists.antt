-- Lists of events, each after those before it.
use Rattle.std.proofs.Common.{◌≡◌, ℕ, zero, suc, List, [], ◌∷◌, fold, take, Some, subst, ap, sym, ◌∙◌, refl}
use Rattle.std.specs.Prelude.{slice_get}
use Rattle.like_core.specs.declared.event.Event.{Event}
use Rattle.like_core.specs.declared.pure_core.refusal.NotNow.{NotNow}
use Rattle.like_core.specs.declared.pure_core.refusal.NotNow.TheVariants.{NoSuch, Phase, Last, Full}
use Rattle.like_core.specs.declared.opening.Opening.{Opening}
use Rattle.like_core.specs.declared.pure_core.Core.{Core}
use Rattle.like_core.specs.core.Numbers.{Numbers}
use Rattle.like_core.specs.core.Table.{Permits, Refuses, next}
use Rattle.like_core.specs.core.State.{CoreState, after, numbers}
use Rattle.like_core.specs.Functions.{MayAll}
use Rattle.like_core.specs.core.Core.{numbers_of, TakesStates}
use Rattle.like_core.proofs.core.NumbersAfter.{numbers-after}

-- an event that is refused is not permitted
pub Refuses-Permits : (n : Numbers) (event : Event) (reason : NotNow) → Refuses n event reason → Permits n event → ⊥
Refuses-Permits n event NoSuch refused may = refused may.there
Refuses-Permits n event Phase refused may = refused.1 may.suits
Refuses-Permits n event Last refused may = refused.2 may.leaves_last
Refuses-Permits n event Full refused may = refused.3 may.room

-- the numbers after one event more
pub fold-take : (n : Numbers) (events : List Event) (i : ℕ) (event : Event)
    → slice_get events i ≡ Some event
    → fold next n (take (suc i) events) ≡ next (fold next n (take i events)) event
fold-take n [] i event at = cc
fold-take n (first ∷ events) zero event at = let same : first ≡ event = cc in ap (next n) same
fold-take n (first ∷ events) (suc i) event at = fold-take (next n first) events i event at

-- one event more may happen
pub MayAll-take : (n : Numbers) (events : List Event) (i : ℕ) (event : Event)
    → slice_get events i ≡ Some event
    → MayAll next Permits n (take i events)
    → Permits (fold next n (take i events)) event
    → MayAll next Permits n (take (suc i) events)
MayAll-take n [] i event at before may = tt
MayAll-take n (first ∷ events) zero event at before may =
    let same : event ≡ first = cc in (subst (Permits n) same may, tt)
MayAll-take n (first ∷ events) (suc i) event at before may =
    (before.0, MayAll-take (next n first) events i event at before.1 may)

-- where each event may happen, the one at i may happen after those before it
pub MayAll-at : (n : Numbers) (events : List Event) (i : ℕ) (event : Event)
    → slice_get events i ≡ Some event
    → MayAll next Permits n events
    → Permits (fold next n (take i events)) event
MayAll-at n [] i event at all = cc
MayAll-at n (first ∷ events) zero event at all = let same : first ≡ event = cc in subst (Permits n) same all.0
MayAll-at n (first ∷ events) (suc i) event at all = MayAll-at (next n first) events i event at all.1

-- the numbers of the state after a list of events
pub numbers-fold : (z : Opening) (s : CoreState) (events : List Event)
    → numbers z (fold (after z) s events) ≡ fold next (numbers z s) events
numbers-fold z s [] = refl
numbers-fold z s (event ∷ events) =
    numbers-fold z (after z s event) events ∙ ap (λ (n : Numbers). fold next n events) (numbers-after z s event)

-- a core with the next numbers stands for each state after the event
pub takes_states : (old new : Core) (event : Event)
    → numbers_of new ≡ next (numbers_of old) event
    → TakesStates old new (event ∷ [])
takes_states old new event now z s stands =
    now ∙ (ap (λ (n : Numbers). next n event) stands ∙ sym (numbers-after z s event))

-- and so for a list of events
pub takes_states_all : (old new : Core) (events : List Event)
    → numbers_of new ≡ fold next (numbers_of old) events
    → TakesStates old new events
takes_states_all old new events now z s stands =
    now ∙ (ap (λ (n : Numbers). fold next n events) stands ∙ sym (numbers-fold z s events))
