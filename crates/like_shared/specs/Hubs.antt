-- What a hub's calls do at its desk, and its end.
use Rattle.std.specs.Prelude.{ℕ, List, [], ◌∷◌, Result, Ok, Err, ⊤}
use Rattle.told_lock.specs.Deeds.{HasRun, Leads, Named}
use Rattle.told_lock.specs.{Rights.IsHolding, Rights.first_of, declared.pass.Pass.Pass}
use Rattle.like_shared.specs.Closed.{IsClosedShared, IsNotClosed}
use Rattle.like_shared.specs.declared.desk.DeskDeed.{DeskDeed, TheVariants.Made}
use Rattle.like_shared.specs.declared.hub.HubNotClosed.{HubNotClosed, TheVariants.DeskTaken, TheVariants.Open}
use Rattle.like_shared.specs.declared.service.{NotClosed.NotClosed, ServiceKeeper.ServiceKeeper}
use Rattle.like_shared.specs.{Desk.DeskDoes, Shared.IsServiceKeeper, declared.hub.Hub.Hub}

-- a card is at the desk, and has the keeper
abbrev pub IsAtDesk : Hub → Pass ServiceKeeper DeskDeed → Type 0
IsAtDesk h card = (k : ServiceKeeper) × IsHolding h.desk card k k × IsServiceKeeper h.service k

-- what a call for a client does at the desk: nothing, if it gets none
abbrev pub done_for : {A E : Type 0} → Result A E → List DeskDeed
done_for (Ok client) = Made ∷ []
done_for (Err why) = []

-- a keeper to which some deeds at the hub's desk lead. That these are all that its cards told is not said: cards may be
-- out
abbrev pub IsLastKeeper : Hub → ServiceKeeper → Type 0
IsLastKeeper h k = (done : List DeskDeed) × HasRun DeskDoes (first_of h.desk) done k

-- the keeper to which all that the cards told leads
abbrev pub IsKeeperAfter : Hub → Named DeskDeed → ServiceKeeper → Type 0
IsKeeperAfter h told k = (seen : List (Named DeskDeed)) × Leads DeskDoes (first_of h.desk) told seen k

-- a hub is closed by such a keeper: its service is
abbrev pub IsClosedBy : (ServiceKeeper → Type 0) → Hub → List ℕ → Type 0
IsClosedBy is h counts = (k : ServiceKeeper) × is k × IsClosedShared h.service k counts

-- why it isn't closed: its service isn't
abbrev pub IsNotClosedBy : (ServiceKeeper → Type 0) → Hub → NotClosed → Type 0
IsNotClosedBy is h why = (k : ServiceKeeper) × is k × IsNotClosed h.service k why

abbrev pub IsHubNotClosed : Hub → HubNotClosed → Type 0
IsHubNotClosed h DeskTaken = ⊤
IsHubNotClosed h (Open why) = IsNotClosedBy (IsLastKeeper h) h why
