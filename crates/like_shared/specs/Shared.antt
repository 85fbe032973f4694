-- A shared service, its keeper and its clients.
use Rattle.std.specs.Prelude.{◌≡◌, ℕ, ◌≤◌, All, Bool, false, IfErr, IsFalse, List, [], ◌∷◌, ◌++◌, length, map, MatchResult, Result, slice_index_or, slice_set, vec_capacity}
use Rattle.std.specs.List.{AllZip}
use Rattle.told_lock.specs.Deeds.{Continues, Named, named}
use Rattle.told_lock.specs.Rights.{IsIdle, IsKeeper, SeesNext, first_of, log_of, name_of, seens_of, told_of}
use Rattle.like_live.specs.{Driver.DriverView, LiveView.LiveView, Service.AreItsSeats}
use Rattle.like_shared.specs.declared.{client.Client.Client, deed.DriverDeed.DriverDeed, deed.SeatDeed.SeatDeed}
use Rattle.like_shared.specs.declared.{seat_call.Busy.Busy, seat_call.SeatPass.SeatPass}
use Rattle.like_shared.specs.declared.{service.ServiceKeeper.ServiceKeeper, service.SharedService.SharedService}
use Rattle.like_shared.specs.{Deeds.pages_at, Passes.IsReady, Passes.log_at, Passes.seen_at}

-- the driver and the seats with which it was opened
abbrev pub first_driver : SharedService → DriverView
first_driver s = first_of s.driver

abbrev pub first_seats : SharedService → List LiveView
first_seats s = map first_of s.seats.items

-- how many seats it has
abbrev pub seats_of : SharedService → ℕ
seats_of s = length s.seats.items

-- how many pages it has
abbrev pub pages_of : SharedService → ℕ
pages_of s = pages_at (first_driver s)

-- how many clients are out
abbrev pub clients_out : ServiceKeeper → ℕ
clients_out k = k.driver.out

-- the keeper of this service: as many passes of each seat are out as clients
pub record IsServiceKeeper (s : SharedService) (k : ServiceKeeper) : Type 0 where
  pub some : 1 ≤ seats_of s
  pub whole : AreItsSeats (first_driver s) (first_seats s)
  pub seats : AllZip IsKeeper s.seats.items k.seats.items
  pub driver : IsKeeper s.driver k.driver
  pub out : All (λ seat. seat.out ≡ clients_out k) k.seats.items
  pub none : k.back.items ≡ []
  pub room : length s.seats.items ≤ vec_capacity k.back

-- what the clients told at each seat that are back, and what each of them has seen there
abbrev pub seats_told : ServiceKeeper → List (Named SeatDeed)
seats_told k = map told_of k.seats.items

abbrev pub seats_seen : ServiceKeeper → List (List (Named SeatDeed))
seats_seen k = map seens_of k.seats.items

-- a client of this service, which may hold seats
pub record IsClient (s : SharedService) (c : Client) : Type 0 where
  pub some : 1 ≤ seats_of s
  pub seats : AllZip IsReady s.seats.items c.seats.items
  pub driver : IsIdle s.driver c.driver

-- its log: its deeds at each seat, and at the driver
abbrev pub seat_logs : Client → List (List SeatDeed)
seat_logs c = map log_at c.seats.items

abbrev pub driver_log : Client → List DriverDeed
driver_log c = log_of c.driver

-- what it has seen of each seat, and by which name
abbrev pub seen_by : Client → List (Named SeatDeed)
seen_by c = map seen_at c.seats.items

abbrev pub names_of : Client → List ℕ
names_of c = map (λ p. name_of p.pass) c.seats.items

-- which seats it holds
abbrev pub held_by : Client → List Bool
held_by c = map (λ p. p.is_held) c.seats.items

-- whether it holds this one
abbrev pub holds : Client → ℕ → Bool
holds c seat = slice_index_or (held_by c) seat false

-- the logs, with these deeds behind the one at this seat
abbrev pub with_deeds : List (List SeatDeed) → ℕ → List SeatDeed → List (List SeatDeed)
with_deeds logs seat ds = slice_set logs seat (slice_index_or logs seat [] ++ ds)

-- these deeds of a client at a seat come behind all that it has seen there, and what others did meanwhile
abbrev pub ComeNext : Client → ℕ → List SeatDeed → Client → Type 0
ComeNext before seat done after =
    (others : Named SeatDeed) × (seen_by after ≡ slice_set (seen_by before) seat
    (slice_index_or (seen_by before) seat [] ++ others ++ named (slice_index_or (names_of before) seat 0) done))

-- calls of a seat are in a client's log, with what they were told; or the seat was busy, which this client didn't hold,
-- and the log is as before. It holds the seats that it held
pub record AreLogged {A : Type 0} (before : Client) (seat : ℕ) (deeds : A → List SeatDeed) (result : Result A Busy)
    (after : Client) : Type 0 where
  pub seats : MatchResult result (λ told. seat_logs after ≡ with_deeds (seat_logs before) seat (deeds told))
      (λ busy. seat_logs after ≡ seat_logs before)
  pub seen : MatchResult result (λ told. ComeNext before seat (deeds told) after)
      (λ busy. ComeNext before seat [] after)
  pub free : IfErr result (λ busy. IsFalse (holds before seat))
  pub driver : driver_log after ≡ driver_log before
  pub held : held_by after ≡ held_by before

-- one call of a seat is in a client's log, with what it was told; or the seat was busy
abbrev pub IsLogged : {A : Type 0} → Client → ℕ → (A → SeatDeed) → Result A Busy → Client → Type 0
IsLogged before seat deed result after = AreLogged before seat (λ told. deed told ∷ []) result after

-- a call of the driver is in a client's log, with what it was told; or the driver was busy. The client holds the seats
-- that it held
pub record IsDriverLogged {A : Type 0} (before : Client) (deed : A → DriverDeed) (result : Result A Busy)
    (after : Client) : Type 0 where
  pub driver : MatchResult result (λ told. driver_log after ≡ driver_log before ++ deed told ∷ [])
      (λ busy. driver_log after ≡ driver_log before)
  pub seen : MatchResult result (λ told. SeesNext before.driver (deed told ∷ []) after.driver)
      (λ busy. SeesNext before.driver [] after.driver)
  pub seats : seat_logs after ≡ seat_logs before
  pub held : held_by after ≡ held_by before

-- a client does nothing, but may hold other seats
pub record HasSameLogs (before after : Client) : Type 0 where
  pub seats : seat_logs after ≡ seat_logs before
  pub seen : AllZip Continues (seen_by before) (seen_by after)
  pub driver : driver_log after ≡ driver_log before

-- what is known of each seat, and then what these passes of a client add to it
abbrev pub with_each : {A : Type 0} → (A → SeatPass → A) → List A → List SeatPass → List A
with_each add known [] = known
with_each add [] (p ∷ passes) = []
with_each add (x ∷ known) (p ∷ passes) = add x p ∷ with_each add known passes

-- what was told at each seat, and then these logs of a client
abbrev pub with_logs : List (Named SeatDeed) → List SeatPass → List (Named SeatDeed)
with_logs = with_each (λ told p. told ++ named (name_of p.pass) (log_at p))

-- what clients have seen of each seat, and this one too
abbrev pub with_seen : List (List (Named SeatDeed)) → List SeatPass → List (List (Named SeatDeed))
with_seen = with_each (λ seen p. seen ++ seen_at p ∷ [])

-- no client is out, and none has told anything yet
pub record IsUnused (k : ServiceKeeper) : Type 0 where
  pub back : clients_out k ≡ 0
  pub seats : All (λ s. told_of s ≡ []) k.seats.items
  pub driver : told_of k.driver ≡ []
