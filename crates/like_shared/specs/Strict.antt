-- All that all clients did at a shared service, as the calls of one thread.
use Rattle.std.specs.Prelude.{◌≡◌, ℕ, ◌+◌, ◌<◌, nat_lt, All, List, ◌∷◌, ◌++◌, filter, flat_map, length, map, slice_index, sum_by, Ok, Option, Some, true, ⊤}
use Rattle.std.specs.List.{AllZip, last_or}
use Rattle.told_lock.specs.Deeds.{Leads, Named, deeds_in}
use Rattle.like_tables.specs.{LastLike.page_or_none, UserTable.last_of}
use Rattle.like_live.specs.Service.{AreGone, AreOpened, IsClosedService}
use Rattle.like_live.specs.StrictService.{HasLastCounts, HasLastLikes, IsStrictService, SeatHistory, opened}
use Rattle.like_live.specs.{DeedStore.store_after, History.Told, History.pages_liked, LiveView.LiveView}
use Rattle.like_live.specs.{Deeds.Deed, Driver.DriverView, Lasts.user_at, Types.Opening}
use Rattle.like_live.specs.StrictService as strict
use Rattle.like_shared.specs.Deeds.{DriverDoes, SeatDoes, calls_of, liked_by}
use Rattle.like_shared.specs.declared.deed.DriverDeed.TheVariants.{LastCounts, Snapshot}
use Rattle.like_shared.specs.declared.deed.SeatDeed.TheVariants.{Last, Lasts}
use Rattle.like_shared.specs.declared.deed.{DriverDeed.DriverDeed, SeatDeed.SeatDeed}

-- a seat of a shared service, from its opening to its end: what all clients told of it led from the one to the other, in
-- an order that continues what each of them has seen
pub record SeatEnd : Type 0 where
  pub first : LiveView
  pub last : LiveView
  pub told : Named SeatDeed
  pub seen : List (Named SeatDeed)
  pub leads : Leads SeatDoes first told seen last

-- the driver of a shared service, in the same way
pub record DriverEnd : Type 0 where
  pub first : DriverView
  pub last : DriverView
  pub told : Named DriverDeed
  pub seen : List (Named DriverDeed)
  pub leads : Leads DriverDoes first told seen last

-- the seats at first and at last
abbrev pub firsts : List SeatEnd → List LiveView
firsts ends = map (λ e. e.first) ends

abbrev pub lasts : List SeatEnd → List LiveView
lasts ends = map (λ e. e.last) ends

-- a history of the seat has the calls of all clients at it, and no others: each client's stand in it in their order
pub record IsHistoryOf (e : SeatEnd) (h : SeatHistory) : Type 0 where
  pub first : h.first ≡ e.first
  pub last : h.last ≡ e.last
  pub told : h.told ≡ flat_map calls_of (deeds_in e.leads.order)

-- how many likes of a page clients were told at a seat
abbrev pub likes_at : ℕ → SeatEnd → ℕ
likes_at page e = sum_by (liked_by page) (deeds_in e.told)

-- a user's last like after these calls of a seat: the page of the last one that was told `Liked`, or that with which the
-- seat began
abbrev pub last_told : LiveView → List Told → ℕ → Option ℕ
last_told first told user = last_or (last_of first.station.last user) (pages_liked user told)

-- last likes that a client was told are those after the calls before
abbrev pub ShowsLast : LiveView → List Told → SeatDeed → Type 0
ShowsLast first before (Last user (Ok page)) = page ≡ last_told first before user
ShowsLast first before (Lasts from pages true) =
    (i : ℕ) → i < length pages
    → slice_index pages i ≡ page_or_none (last_told first before (user_at first (from + i)))
ShowsLast first before d = ⊤

-- all last likes that clients were told at a seat are those after the calls before
abbrev pub ShowsLasts : SeatEnd → Type 0
ShowsLasts e =
    (before after : List SeatDeed) (d : SeatDeed) → deeds_in e.leads.order ≡ before ++ d ∷ after
    → ShowsLast e.first (flat_map calls_of before) d

-- these are the store's counts at the end of the phase, of the pages from this one on
abbrev pub AreCountsAt : Opening → List Deed → (phase from : ℕ) → List ℕ → Type 0
AreCountsAt o serial phase from counts =
    (i : ℕ) → i < length counts
    → slice_index counts i
    ≡ (store_after (opened o) (filter (λ d. nat_lt d.phase (phase + 1)) serial)).count (from + i)

-- counts that a client was told are the store's at the end of a phase: those of a snapshot, of which it was told the
-- phase, and last counts
abbrev pub ShowsStore : Opening → List Deed → DriverDeed → Type 0
ShowsStore o serial (Snapshot from counts (Some phase)) = AreCountsAt o serial phase from counts
ShowsStore o serial (LastCounts from counts true) = (phase : ℕ) × AreCountsAt o serial phase from counts
ShowsStore o serial d = ⊤

-- one thread could have done all that all clients did: the seats have histories of all clients' calls, and all their
-- deeds have one strict list. Snapshots, last counts and last likes are its store's. Last likes that a client was told are
-- those after the seat's calls before. Each page's last count is its first count and the likes of it that all clients
-- were told
pub record IsStrictlyShared (o : Opening) (driver : DriverEnd) (ends : List SeatEnd) (counts : List ℕ) : Type 0 where
  pub histories : List SeatHistory
  pub each : AllZip IsHistoryOf ends histories
  pub serial : List Deed
  pub strict : IsStrictService o (map strict.deeds_in histories) serial
  pub snapshots : All (ShowsStore o serial) (deeds_in driver.leads.order)
  pub last_counts : HasLastCounts o counts serial
  pub last_likes : HasLastLikes o (lasts ends) serial
  pub told_lasts : All ShowsLasts ends
  pub totals : (page : ℕ) → page < length counts
      → slice_index counts page ≡ slice_index o.counts.items page + sum_by (likes_at page) ends

-- the law of shared services: of one that was opened so, and is closed, one thread could have done all
abbrev pub SharedServicesAreStrict : Type 0
SharedServicesAreStrict =
    (o : Opening) (driver : DriverEnd) (ends : List SeatEnd) (counts : List ℕ)
    → AreOpened o driver.first (firsts ends)
    → IsClosedService driver.last (lasts ends) counts
    → AreGone (lasts ends)
    → IsStrictlyShared o driver ends counts
