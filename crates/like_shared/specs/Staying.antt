-- What stays along all calls of a service.
use Rattle.std.specs.Prelude.{ℕ, ◌+◌, ◌<◌, All, Contains, List, length, slice_index, Some, true}
use Rattle.like_core.specs.Types.{PageCount}
use Rattle.told_lock.specs.Deeds.{HasRun}
use Rattle.like_live.specs.{Driver.DriverView, Driver.IsSameDriver, LiveView.IsSameSeat, LiveView.LiveView}
use Rattle.like_shared.specs.Deeds.{DriverDoes}
use Rattle.like_shared.specs.declared.deed.DriverDeed.{DriverDeed, TheVariants.LastCounts, TheVariants.Snapshot}

-- the counts that a driver has read
abbrev pub counted : DriverView → List PageCount
counted v = v.lead.seat.counted

-- the law of what stays the same: if each call leaves the same driver, or the same seat, so do two, one after the other
pub record SameStays : Type 0 where
  pub driver_first : (v : DriverView) → IsSameDriver v v
  pub driver_then : (u v w : DriverView) → IsSameDriver u v → IsSameDriver v w → IsSameDriver u w
  pub seat_first : (v : LiveView) → IsSameSeat v v
  pub seat_then : (u v w : LiveView) → IsSameSeat u v → IsSameSeat v w → IsSameSeat u w

-- it knows these counts, of the pages from this one on, as those of the phase
abbrev pub KnowsCounts : DriverView → (phase from : ℕ) → List ℕ → Type 0
KnowsCounts v phase from counts =
    (i : ℕ) → i < length counts
    → Contains (counted v) (record { phase = phase; page = from + i; count = slice_index counts i })

-- the law of counts: whatever calls a driver is asked, it keeps the counts that it has read, and at the end it knows those
-- that a snapshot among these calls wrote, as counts of the snapshot's phase, and those that were written as last ones
pub record CountsStay : Type 0 where
  pub kept : (v w : DriverView) (ds : List DriverDeed) → HasRun DriverDoes v ds w → All (Contains (counted w)) (counted v)
  pub snapshots : (v w : DriverView) (ds : List DriverDeed) (from phase : ℕ) (counts : List ℕ)
      → HasRun DriverDoes v ds w → Contains ds (Snapshot from counts (Some phase)) → KnowsCounts w phase from counts
  pub lasts : (v w : DriverView) (ds : List DriverDeed) (from : ℕ) (counts : List ℕ)
      → HasRun DriverDoes v ds w → Contains ds (LastCounts from counts true)
      → (phase : ℕ) × KnowsCounts w phase from counts
