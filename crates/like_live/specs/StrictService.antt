-- The calls of all seats of a service, as those of one thread.
use Rattle.std.specs.Prelude.{◌≡◌, ◌⊎◌, ℕ, ◌+◌, ◌<◌, ◌≤◌, ◌==◌, nat_lt, All, List, [], filter, flat_map, length, map, take, slice_get, slice_index, slice_index_or, AllPairs, Some}
use Rattle.like_requests.specs.Verdict.{home}
use Rattle.like_core.specs.{Types.PageCount, views.Shows.Moment}
use Rattle.like_board.specs.Seats.{BoardId}
use Rattle.like_tables.specs.UserTable.{last_in, last_of}
use Rattle.like_promises.specs.Store.{Store}
use Rattle.like_live.specs.Service.{AreGone, AreOpened, AreOpenedSeats, IsClosedService}
use Rattle.like_live.specs.{DeedStore.Fits, DeedStore.store_after, Driver.DriverView, Driver.IsSameDriver}
use Rattle.like_live.specs.{Deeds.Deed, Deeds.counted, Deeds.deeds_of, Moments.AreSeatsAt, Opening.board_opening}
use Rattle.like_live.specs.{History.HasDone, History.Told, LiveView.LiveView, Types.Opening}

-- the calls of a seat, from one view of it to another
pub record SeatHistory : Type 0 where
  pub first : LiveView
  pub last : LiveView
  pub told : List Told
  pub done : HasDone first told last

-- the deeds of a seat's calls
abbrev pub deeds_in : SeatHistory → List Deed
deeds_in h = deeds_of h.told h.first h.last h.done

-- the deeds for the users of a seat, in their order: user u belongs to seat u modulo the number of seats
abbrev pub deeds_by : (seats seat : ℕ) → List Deed → List Deed
deeds_by seats seat deeds = filter (λ d. home seats d.user == seat) deeds

-- the store of an opening
abbrev pub opened : Opening → Store
opened o = record { count = slice_index o.counts.items; last = last_in o.lasts.items }

-- a deed is earlier than another: its number is less; or it is the same, and both are likes that were counted, as those
-- of one row may have it
abbrev pub IsEarlier : Deed → Deed → Type 0
IsEarlier d e = (d.number < e.number) ⊎ ((d.number ≡ e.number) × (d.act ≡ counted) × (e.act ≡ counted))

-- strict, where these are the deeds of each seat: the list has them in their order, and no others; it goes by their
-- numbers; phases never fall; and each deed fits the store after the deeds before it. (What is glimpsed may lack likes
-- that other seats have in their slices. Its count has the bounds of `IsWithinAdded`)
pub record IsStrictService (o : Opening) (deeds : List (List Deed)) (serial : List Deed) : Type 0 where
  pub own : (seat : ℕ) → deeds_by o.seats seat serial ≡ slice_index_or deeds seat []
  pub in_time : AllPairs IsEarlier serial
  pub rising : AllPairs (λ d e. d.phase ≤ e.phase) serial
  pub fits : (i : ℕ) (d : Deed) → slice_get serial i ≡ Some d
      → Fits (store_after (opened o) (take i serial)) d.user d.page d.act

-- what a host reads without the list, of the deeds of each seat: each deed fits the store after all deeds with lesser
-- numbers, of whichever seats
abbrev pub FitEarlier : Opening → List (List Deed) → Type 0
FitEarlier o deeds =
    let all = flat_map (λ ds. ds) deeds in
    All (λ d. Fits (store_after (opened o) (filter (λ e. nat_lt e.number d.number) all)) d.user d.page d.act) all

-- the law of numbers: so it is in a strict service
abbrev pub DeedsFitEarlier : Type 0
DeedsFitEarlier =
    (o : Opening) (deeds : List (List Deed)) (serial : List Deed) → IsStrictService o deeds serial → FitEarlier o deeds

-- a snapshot is the store at the end of its phase: each count that the driver read in a phase is its page's after all
-- deeds of the phase and of earlier ones
abbrev pub SnapshotsStand : Opening → List PageCount → List Deed → Type 0
SnapshotsStand o read serial =
    All (λ r. r.count ≡ (store_after (opened o) (filter (λ d. nat_lt d.phase (r.phase + 1)) serial)).count r.page)
    read

-- the last counts are the store's after all deeds
abbrev pub HasLastCounts : Opening → List ℕ → List Deed → Type 0
HasLastCounts o counts serial =
    (page : ℕ) → page < length counts → slice_index counts page ≡ (store_after (opened o) serial).count page

-- the last likes that each seat tells of its users are the store's after all deeds
abbrev pub HasLastLikes : Opening → List LiveView → List Deed → Type 0
HasLastLikes o seats serial =
    (seat user : ℕ) (v : LiveView) → slice_get seats seat ≡ Some v → user < o.users → home o.seats user ≡ seat
    → last_of v.station.last user ≡ (store_after (opened o) serial).last user

-- the law of one order that keeps time: of a service that was opened so and is closed, there is a strict list of all
-- deeds of its seats' calls. Each snapshot is its store at the end of the phase, and last counts and last likes are
-- its store's at the end
abbrev pub ServicesAreStrict : Type 0
ServicesAreStrict =
    (o : Opening) (driver now : DriverView) (histories : List SeatHistory) (counts : List ℕ)
    → AreOpened o driver (map (λ h. h.first) histories)
    → IsSameDriver driver now
    → IsClosedService now (map (λ h. h.last) histories) counts
    → AreGone (map (λ h. h.last) histories)
    → (serial : List Deed) × IsStrictService o (map deeds_in histories) serial
    × SnapshotsStand o now.lead.seat.counted serial
    × HasLastCounts o counts serial × HasLastLikes o (map (λ h. h.last) histories) serial

-- a seat's phases never fall, also where it came back: of a strict service, no deed of a seat is of an earlier phase
-- than one before it
abbrev pub SeatsRise : Type 0
SeatsRise =
    (o : Opening) (deeds : List (List Deed)) (serial : List Deed) → IsStrictService o deeds serial
    → All (λ ds. AllPairs (λ d e. d.phase ≤ e.phase) ds) deeds

-- the law of one order while a service still runs: at each moment there is a strict list of all that its seats have
-- done so far, likes in slices included, and the last likes that seats tell are its store's
abbrev pub MomentsAreStrict : Type 0
MomentsAreStrict =
    (o : Opening) (factor : ℕ) (board : BoardId) (histories : List SeatHistory) (m : Moment (board_opening o factor))
    → AreOpenedSeats o factor board (map (λ h. h.first) histories)
    → AreSeatsAt (board_opening o factor) m (map (λ h. h.last) histories)
    → (serial : List Deed) × IsStrictService o (map deeds_in histories) serial
    × HasLastLikes o (map (λ h. h.last) histories) serial

-- at each moment of a service each deed so far fits the store after all deeds with lesser numbers
abbrev pub MomentsFitEarlier : Type 0
MomentsFitEarlier =
    (o : Opening) (factor : ℕ) (board : BoardId) (histories : List SeatHistory) (m : Moment (board_opening o factor))
    → AreOpenedSeats o factor board (map (λ h. h.first) histories)
    → AreSeatsAt (board_opening o factor) m (map (λ h. h.last) histories)
    → FitEarlier o (map deeds_in histories)
