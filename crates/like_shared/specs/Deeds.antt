-- The calls that clients make, with their answers, and what they do.
use Rattle.std.specs.Prelude.{◌≡◌, ◌↔◌, ℕ, ◌+◌, ◌≤◌, Bool, IsTrue, List, [], ◌∷◌, length, take}
use Rattle.like_limits.specs.Limits.{hot_pages}
use Rattle.like_choice.specs.Slots.{pages_in_use}
use Rattle.like_live.specs.Driver.{DriverTurns, DriverView, IsSameDriver, TakesLast, TakesSnapshot}
use Rattle.like_live.specs.History.{Does, Told, come_back, glance, like, likes_told, look, retire, take_found, turn}
use Rattle.like_live.specs.Lasts.{AreLastsAt, TellsLast, users_of}
use Rattle.like_live.specs.{LikeRow.RowCase, LikeRow.row_calls, LiveView.IsSameSeat, LiveView.LiveView}
use Rattle.like_shared.specs.declared.deed.DriverDeed.{DriverDeed, DriverDeed as driver}
use Rattle.like_shared.specs.declared.deed.SeatDeed.{SeatDeed, SeatDeed as deed}

-- the calls of a history that a deed is: one; those of a row; or none if it only tells last likes
abbrev pub calls_of : SeatDeed → List Told
calls_of (deed.Turn answer) = turn answer ∷ []
calls_of (deed.Like user page answer) = like user page answer ∷ []
calls_of (deed.LikeRow likes told) = row_calls likes told
calls_of (deed.Look user page tag answer) = look user page tag answer ∷ []
calls_of (deed.Glance user page answer) = glance user page answer ∷ []
calls_of (deed.TakeFound taken) = take_found taken ∷ []
calls_of (deed.Retire answer) = retire answer ∷ []
calls_of (deed.ComeBack answer) = come_back answer ∷ []
calls_of (deed.Last user answer) = []
calls_of (deed.Lasts from pages is_done) = []

-- the last likes of a seat's users from a rank on, are told if it has so many users
pub record TellsLasts (v : LiveView) (from : ℕ) (pages : List ℕ) (is_done : Bool) : Type 0 where
  pub there : IsTrue is_done ↔ (from + length pages ≤ users_of v)
  pub lasts : IsTrue is_done → AreLastsAt v from pages

-- a call of a seat, with its answer
abbrev pub SeatMakes : LiveView → SeatDeed → LiveView → Type 0
SeatMakes v (deed.Turn answer) w = Does v (turn answer) w
SeatMakes v (deed.Like user page answer) w = Does v (like user page answer) w
SeatMakes v (deed.LikeRow likes told) w = RowCase v likes told w
SeatMakes v (deed.Look user page tag answer) w = Does v (look user page tag answer) w
SeatMakes v (deed.Glance user page answer) w = Does v (glance user page answer) w
SeatMakes v (deed.TakeFound taken) w = Does v (take_found taken) w
SeatMakes v (deed.Retire answer) w = Does v (retire answer) w
SeatMakes v (deed.ComeBack answer) w = Does v (come_back answer) w
SeatMakes v (deed.Last user answer) w = TellsLast v user answer × (w ≡ v)
SeatMakes v (deed.Lasts from pages is_done) w = TellsLasts v from pages is_done × (w ≡ v)

-- what a deed does to a seat, which stays the same one
abbrev pub SeatDoes : LiveView → SeatDeed → LiveView → Type 0
SeatDoes v d w = SeatMakes v d w × IsSameSeat v w

-- how many likes of a page a deed was told
abbrev pub liked_by : ℕ → SeatDeed → ℕ
liked_by page d = likes_told page (calls_of d)

-- how many pages a driver has
abbrev pub pages_at : DriverView → ℕ
pages_at v = length v.lead.seat.opening.counts

-- a call of a driver
abbrev pub DriverMakes : DriverView → DriverDeed → DriverView → Type 0
DriverMakes v (driver.Turn end answer) w = DriverTurns v end answer w
DriverMakes v (driver.Propose pages) w = w ≡ record v { splits = record v.splits { told = take hot_pages pages } }
DriverMakes v (driver.Snapshot from counts phase) w = (old : List ℕ) × TakesSnapshot v from old phase w counts
DriverMakes v (driver.SplitPages pages many) w =
    (many ≤ length pages) × (take many pages ≡ take (length pages) (pages_in_use v.splits.slots)) × (w ≡ v)
DriverMakes v (driver.LastCounts from counts is_done) w = (old : List ℕ) × TakesLast v from old is_done w counts

-- what a deed does to a driver, which stays the same one
abbrev pub DriverDoes : DriverView → DriverDeed → DriverView → Type 0
DriverDoes v d w = DriverMakes v d w × IsSameDriver v w
