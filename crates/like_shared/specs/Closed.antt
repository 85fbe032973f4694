-- The end of a shared service.
use Rattle.std.specs.Prelude.{◌≡◌, ◌≢◌, ℕ, List, map}
use Rattle.told_lock.specs.{Deeds.Leads, Deeds.Named, Rights.seens_of, Rights.told_of}
use Rattle.like_live.specs.Service.{AreGone, AreItsSeats, AreOpened, IsClosedService}
use Rattle.like_live.specs.{Driver.DriverView, LiveView.LiveView, Types.Opening}
use Rattle.like_shared.specs.Deeds.{DriverDoes}
use Rattle.like_shared.specs.Shared.{clients_out, first_driver, first_seats, seats_seen, seats_told}
use Rattle.like_shared.specs.Strict.{DriverEnd, IsStrictlyShared, SeatEnd, firsts, lasts}
use Rattle.like_shared.specs.declared.service.NotClosed.TheVariants.{ClientOut, SeatNotGone}
use Rattle.like_shared.specs.declared.{deed.SeatDeed.SeatDeed, service.NotClosed.NotClosed}
use Rattle.like_shared.specs.declared.{service.ServiceKeeper.ServiceKeeper, service.SharedService.SharedService}

-- what clients told of seats leads from these to those, in orders that continue what they have seen
pub record AreEndsOf (first : List LiveView) (told : List (Named SeatDeed)) (seen : List (List (Named SeatDeed)))
    (last : List LiveView) : Type 0 where
  pub ends : List SeatEnd
  pub firsts_are : firsts ends ≡ first
  pub told_are : map (λ e. e.told) ends ≡ told
  pub seen_are : map (λ e. e.seen) ends ≡ seen
  pub lasts_are : lasts ends ≡ last

-- what its clients told leads to this driver and to these seats, which are its own
pub record LeadsTo (s : SharedService) (k : ServiceKeeper) (driver : DriverView) (seats : List LiveView) : Type 0 where
  pub driver_leads : Leads DriverDoes (first_driver s) (told_of k.driver) (seens_of k.driver) driver
  pub seats_lead : AreEndsOf (first_seats s) (seats_told k) (seats_seen k) seats
  pub whole : AreItsSeats driver seats

-- the driver of a shared service, from its opening to what its clients told leads to
abbrev pub driver_end : {s : SharedService} {k : ServiceKeeper} {driver : DriverView} {seats : List LiveView}
    → LeadsTo s k driver seats → DriverEnd
driver_end {s} {k} {driver} it =
    record { first = first_driver s; last = driver; told = told_of k.driver; seen = seens_of k.driver; leads = it.driver_leads }

-- a shared service is closed, with no client out and all seats gone: however it was opened, one thread could have done all
-- that its clients told
pub record IsClosedShared (s : SharedService) (k : ServiceKeeper) (counts : List ℕ) : Type 0 where
  pub driver : DriverView
  pub seats : List LiveView
  pub back : clients_out k ≡ 0
  pub leads : LeadsTo s k driver seats
  pub gone : AreGone seats
  pub closed : IsClosedService driver seats counts
  pub strict : (o : Opening) → AreOpened o (first_driver s) (first_seats s)
      → IsStrictlyShared o (driver_end leads) leads.seats_lead.ends counts

-- why it isn't closed: a client is out, and service and keeper come back as they were; or all are back and a seat isn't
-- gone, and the service comes back, shared no more
abbrev pub IsNotClosed : SharedService → ServiceKeeper → NotClosed → Type 0
IsNotClosed s k (ClientOut service keeper) = (service ≡ s) × (keeper ≡ k) × (clients_out k ≢ 0)
IsNotClosed s k (SeatNotGone service) =
    (clients_out k ≡ 0) × LeadsTo s k service.driver service.seats.items × ¬ AreGone service.seats.items
