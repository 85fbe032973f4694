-- What a client's calls do.
use Rattle.std.specs.Prelude.{◌≡◌, ℕ, ◌<◌, true, false, IsFalse, slice_set, List, [], ◌∷◌, Result, Ok, Err, ⊤}
use Rattle.std.specs.Arc.{arc_value}
use Rattle.like_shared.specs.Shared.{AreLogged, HasSameLogs, IsDriverLogged, held_by, holds, pages_of, seats_of}
use Rattle.like_shared.specs.declared.{client.Client.Client, deed.SeatDeed.SeatDeed}
use Rattle.like_shared.specs.declared.{deed.DriverDeed.DriverDeed, hub.Hub.Hub, seat_call.Busy.Busy}
use Rattle.like_c.specs.Status.{busy, status, unknown_seat}
use Rattle.like_c.specs.{Asks.If, declared.boxed_client.BoxedClient.BoxedClient}

-- a client's hub
abbrev pub hub_of : BoxedClient → Hub
hub_of b = arc_value b.hub

-- how many seats and how many pages its service has
abbrev pub seats_by : BoxedClient → ℕ
seats_by b = seats_of (hub_of b).service

abbrev pub pages_by : BoxedClient → ℕ
pages_by b = pages_of (hub_of b).service

-- nothing but the client has changed
pub record KeepsHub (b c : BoxedClient) : Type 0 where
  pub hub : c.hub ≡ b.hub
  pub card : c.card ≡ b.card

-- what is told: the answer, or that another thread has what was called
abbrev pub unless_busy : {A : Type 0} → Result A Busy → Result A ℕ
unless_busy (Ok answer) = Ok answer
unless_busy (Err it) = Err (status busy)

-- calls of a seat: they were made, and the client's log has them; or another thread has the seat, which this client doesn't
-- hold, and its log is as before; or there is no such seat, and nothing is done
abbrev pub Calls : {A : Type 0} → ℕ → (A → List SeatDeed) → Result A ℕ → BoxedClient → BoxedClient → Type 0
Calls {A} seat deeds told b c =
    If (seat < seats_by b) unknown_seat (λ told b c. (it : Result A Busy) × (told ≡ unless_busy it)
    × AreLogged b.client seat deeds it c.client × KeepsHub b c) told b c

abbrev pub CallsOne : {A : Type 0} → ℕ → (A → SeatDeed) → Result A ℕ → BoxedClient → BoxedClient → Type 0
CallsOne seat deed told b c = Calls seat (λ answer. deed answer ∷ []) told b c

-- a call of the driver: it was made, and the client's log has it; or another thread has the driver, and its log is as before
abbrev pub CallsDriver : {A : Type 0} → (A → DriverDeed) → Result A ℕ → BoxedClient → BoxedClient → Type 0
CallsDriver {A} deed told b c =
    (it : Result A Busy) × (told ≡ unless_busy it) × IsDriverLogged b.client deed it c.client × KeepsHub b c

-- a seat is locked, and held from now on; or another thread has it, and this client doesn't
abbrev pub Locks : ℕ → Result ⊤ ℕ → Client → Client → Type 0
Locks seat (Ok done) b c = held_by c ≡ slice_set (held_by b) seat true
Locks seat (Err why) b c = (why ≡ status busy) × IsFalse (holds b seat) × (held_by c ≡ held_by b)

-- it is unlocked, and not held from now on
abbrev pub Unlocks : ℕ → Result ⊤ ℕ → Client → Client → Type 0
Unlocks seat told b c = (told ≡ Ok tt) × (held_by c ≡ slice_set (held_by b) seat false)

-- this is done with a seat, if there is one, and no call
abbrev pub AtSeat : (ℕ → Result ⊤ ℕ → Client → Client → Type 0) → ℕ → Result ⊤ ℕ → BoxedClient → BoxedClient → Type 0
AtSeat does seat told b c =
    If (seat < seats_by b) unknown_seat
    (λ told b c. does seat told b.client c.client × HasSameLogs b.client c.client × KeepsHub b c) told b c
