-- What a service may be opened with.
use Rattle.std.specs.Prelude.{◌≡◌, ◌⊎◌, ℕ, ◌<◌, ◌≤◌, All, List, [], ◌∷◌, length, Option, ⊤}
use Rattle.std.specs.List.{AllByRecursion}
use Rattle.like_limits.specs.Limits.{max_count, max_marks, max_stash}
use Rattle.like_records.specs.First.{FailsFirst}
use Rattle.like_requests.specs.Setup.{IsHotLimit}
use Rattle.like_core.specs.{OpeningLimits.service_limits, Types.Opening as CoreOpening, core.State.opening_by}
use Rattle.like_tables.specs.{Factors.IsFirstApart, LastLike.no_page, UserTable.IsForUsers}
use Rattle.like_live.specs.Types.{OpenError, Opening}
use Rattle.like_live.specs.declared.open_error.OpenError.TheVariants.{Counts, Hot, Lasts, Marks, Memory, Pages, Room}
use Rattle.like_live.specs.declared.open_error.OpenError.TheVariants.{Seats, Users}

-- what is asked for
pub record Asking : Type 0 where
  pub counts : List ℕ
  pub marks : List ℕ
  pub seats : ℕ
  pub users : ℕ
  pub lasts : List ℕ
  pub room : ℕ
  pub hot : Option ℕ

-- what an opening asks for
abbrev pub asking : Opening → Asking
asking o = record {
  counts = o.counts.items;
  marks = o.marks.items;
  seats = o.seats;
  users = o.users;
  lasts = o.lasts.items;
  room = o.room;
  hot = o.hot;
}

-- these can be marked where there are this many pages: they are few, they are pages, and with some factor no two share
-- a bucket, so no two are alike
pub record AreMarks (pages : ℕ) (marks : List ℕ) : Type 0 where
  pub few : length marks ≤ max_marks
  pub there : All (λ page. page < pages) marks
  pub apart : (factor : ℕ) × IsFirstApart marks factor

-- these can be the last likes of this many users at this many pages: there are none, or one for each user, a page or
-- `no_page`
pub record AreLasts (pages users : ℕ) (lasts : List ℕ) : Type 0 where
  pub len : IsForUsers users lasts
  pub there : All (λ page. (page ≡ no_page) ⊎ (page < pages)) lasts

-- the limit that this error says is broken
abbrev pub Holds : Asking → OpenError → Type 0
Holds a Pages = (1 ≤ length a.counts) × (length a.counts ≤ service_limits.pages)
Holds a Marks = AreMarks (length a.counts) a.marks
Holds a Counts = All (λ count. count ≤ max_count) a.counts
Holds a Seats = (1 ≤ a.seats) × (a.seats ≤ service_limits.seats)
Holds a Users = 1 ≤ a.users
Holds a Lasts = AreLasts (length a.counts) a.users a.lasts
Holds a Room = (1 ≤ a.room) × (a.room ≤ max_stash)
Holds a Hot = IsHotLimit a.hot
Holds a Memory = ⊤

-- the limits, in the order of their tests
abbrev pub limits : List OpenError
limits = Pages ∷ Marks ∷ Counts ∷ Seats ∷ Users ∷ Lasts ∷ Room ∷ Hot ∷ []

-- every limit holds
abbrev pub AreWithinLimits : Asking → Type 0
AreWithinLimits a = AllByRecursion (Holds a) limits

abbrev pub IsWithinLimits : Opening → Type 0
IsWithinLimits o = AreWithinLimits (asking o)

-- the first limit that is broken
abbrev pub IsFirstWrong : Asking → OpenError → Type 0
IsFirstWrong a error = FailsFirst (Holds a) limits error

-- why no service was opened: a number is wrong, and this is the first one; or there is no memory
abbrev pub IsRefusedFor : Asking → OpenError → Type 0
IsRefusedFor a error = IsFirstWrong a error ⊎ ((error ≡ Memory) × AreWithinLimits a)

abbrev pub IsRefused : Opening → OpenError → Type 0
IsRefused o = IsRefusedFor (asking o)

-- the opening of the service's board, with the factor by which its pages have their buckets
abbrev pub board_opening : Opening → ℕ → CoreOpening
board_opening o factor = opening_by factor service_limits o.seats o.counts.items
