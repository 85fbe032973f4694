-- The states of the core that events reach.
use Rattle.std.specs.Prelude.{◌≡◌, List, fold}
use Rattle.like_core.specs.core.State.{CoreState, after, numbers, start}
use Rattle.like_core.specs.{Functions.MayAll, Types.Event, Types.Opening, core.Table.Permits}

-- each event of the list may happen after those before it
abbrev pub PermitsAll : Opening → CoreState → List Event → Type 0
PermitsAll z s events = MayAll (after z) (λ t. Permits (numbers z t)) s events

-- some list of permitted events leads from the start to the state
pub record Reachable (z : Opening) (s : CoreState) : Type 0 where
  pub events : List Event
  pub permitted : PermitsAll z (start z) events
  pub reached : fold (after z) (start z) events ≡ s
