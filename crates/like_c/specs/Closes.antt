-- The end of a service, whose driver and seats a host hands back together.
use Rattle.std.specs.Prelude.{◌≡◌, ◌≢◌, ℕ, List, All, length, map, slice_get, take, Option, Some, None, vec_capacity, option_map}
use Rattle.like_core.specs.Types.{Gone}
use Rattle.like_live.specs.{LiveView.LiveView, Service.AreGone, Service.AreItsSeats, Service.IsClosedService}
use Rattle.like_c.specs.Status.{counted, empty, not_ended, status, wrong_pages, wrong_seats}
use Rattle.like_c.specs.declared.{opened.BoxedSeat.BoxedSeat, opened.Opened.Opened, seat_handle.SeatHandle.SeatHandle}

-- what a handle holds
abbrev pub home_of : SeatHandle → Option BoxedSeat
home_of h = h.home

-- the seat that a handle holds
abbrev pub live_in : SeatHandle → Option LiveView
live_in h = option_map (λ b. b.live) h.home

-- the handles hold these seats, in order, and none is empty
abbrev pub AreHeldBy : List SeatHandle → List LiveView → Type 0
AreHeldBy handles seats = map live_in handles ≡ map Some seats

-- a seat that is gone is in this handle
pub record HoldsGone (h : SeatHandle) : Type 0 where
  pub boxed : BoxedSeat
  pub held : h.home ≡ Some boxed
  pub gone : boxed.live.station.post.state ≡ Gone

-- what is assumed of C: the seats in these handles are those of the driver, each of them once
abbrev pub HoldItsSeats : Option Opened → List SeatHandle → Type 0
HoldItsSeats at handles =
    (o : Opened) (seats : List LiveView) → at ≡ Some o → AreHeldBy handles seats → AreItsSeats o.driver seats

-- why a service can't be closed with the seat in this handle: it is empty; its seat isn't gone; or that isn't the
-- driver's seat in this place, which no clause can tell
pub data PreventsEnd (h : SeatHandle) (result : ℕ) : Type 0 where
  is_empty : h.home ≡ None → result ≡ status empty → PreventsEnd h result
  is_there : (b : BoxedSeat) → h.home ≡ Some b → b.live.station.post.state ≢ Gone → result ≡ status not_ended
      → PreventsEnd h result
  is_other : result ≡ status wrong_seats → PreventsEnd h result

-- why a service can't be closed with the seats in these handles: the first that prevents it, or they aren't as many as
-- the driver's, for which there is room
pub data PreventEnd (o : Opened) (handles : List SeatHandle) (result : ℕ) : Type 0 where
  one_prevents : (i : ℕ) (h : SeatHandle) → All HoldsGone (take i handles) → slice_get handles i ≡ Some h
      → PreventsEnd h result → PreventEnd o handles result
  not_as_many : length handles ≢ vec_capacity o.back → result ≡ status wrong_seats → PreventEnd o handles result

-- nothing is done: the counts are as they were, and each handle holds what it held
pub record StaysOpen (at after : Option Opened) (handles left : List SeatHandle) (old counts : List ℕ) : Type 0 where
  pub driver_stays : after ≡ at
  pub seats_stay : map home_of left ≡ map home_of handles
  pub counts_stay : counts ≡ old

-- a service is closed with the seats in these handles: all are gone, the last counts are written, with what is known of
-- a closed service, and all handles are empty. Or nothing is done: there is no driver; or not a count for each page; or the
-- seats prevent it
pub data ClosesAt (at : Option Opened) (handles : List SeatHandle) (old : List ℕ) (result : ℕ) (counts : List ℕ)
    (after : Option Opened) (left : List SeatHandle) : Type 0 where
  close_empty : at ≡ None → result ≡ status empty → StaysOpen at after handles left old counts
      → ClosesAt at handles old result counts after left
  close_pages : (o : Opened) → at ≡ Some o → length old ≢ length o.driver.lead.seat.opening.counts
      → result ≡ status wrong_pages → StaysOpen at after handles left old counts
      → ClosesAt at handles old result counts after left
  close_prevented : (o : Opened) → at ≡ Some o → length old ≡ length o.driver.lead.seat.opening.counts
      → PreventEnd o handles result → StaysOpen at after handles left old counts
      → ClosesAt at handles old result counts after left
  closes : (o : Opened) (seats : List LiveView) → at ≡ Some o → AreHeldBy handles seats → AreGone seats
      → IsClosedService o.driver seats counts → result ≡ status counted → after ≡ None
      → All (λ h. h.home ≡ None) left → ClosesAt at handles old result counts after left
