-- The seats of a service at a moment of its board, which is between any two steps: what the board's rule says of them.
use Rattle.std.specs.Prelude.{◌≡◌, ℕ, ◌+◌, ◌<◌, ◌↔◌, Bool, true, All, List, Contains, length, slice_index, sum_by}
use lib.ListN.{get_elem?}
use mathlib.Core.Option.{some}
use Rattle.like_core.specs.WorkerState.{RunsJoined, RunsSplit}
use Rattle.like_core.specs.{Post.is_split_at, core.Numbers.AllGone, core.State.numbers, views.Places.count_after}
use Rattle.like_core.specs.{Types.Coord, Types.Opening, views.Posts.posts_of, views.Shows.Moment}
use Rattle.like_board.specs.Seats.{BoardId}
use Rattle.like_seat.specs.{Moments.IsPostAt, StationView.IsStation}
use Rattle.like_live.specs.Driver.{DriverView, IsSameDriver, IsService, new_driver}
use Rattle.like_live.specs.LiveView.{LiveView, tally}
use Rattle.like_live.specs.{Service.posts_at, Splits.IsSlotted, Types.Opening as Asked}

-- a seat at a moment: its post is there
abbrev pub IsSeatAt : (z : Opening) → Moment z → LiveView → Type 0
IsSeatAt z m s = IsPostAt z m s.station.post

-- exclusion: at any moment, while one seat runs a joined phase, no seat runs a split one, and none has a like in its
-- slice
abbrev pub SeatsAreExclusive : Type 0
SeatsAreExclusive =
    (z : Opening) (m : Moment z) (a b : LiveView) → IsSeatAt z m a → IsSeatAt z m b → IsStation b.station
    → RunsJoined a.station.post.state
    → ¬ RunsSplit b.station.post.state × ((page : ℕ) → slice_index b.station.slice page ≡ 0)

-- all seats at a moment: their posts are those of the workers' seats there, those that were given back included
abbrev pub AreSeatsAt : (z : Opening) → Moment z → List LiveView → Type 0
AreSeatsAt z m seats = posts_at seats ≡ posts_of m.views

-- last counts are tallies: at a moment at which all seats are gone, each page's count is its first count and the
-- tallies of all seats
abbrev pub LastCountsAreTallies : Type 0
LastCountsAreTallies =
    (z : Opening) (m : Moment z) (seats : List LiveView) → AreSeatsAt z m seats → All (λ s. IsStation s.station) seats
    → AllGone (numbers z m.shown.state)
    → (page : ℕ) → count_after z.counts m.views page ≡ slice_index z.counts page + sum_by (λ s. tally s page) seats

-- split pages are those of slots: at any moment, split at a seat that runs a split phase are just the pages in its
-- driver's slots
abbrev pub SplitPagesAreSlots : Type 0
SplitPagesAreSlots =
    (z : Opening) (m : Moment z) (v : DriverView) (s : LiveView)
    → get_elem? m.views 0 ≡ some (Coord v.lead.seat) → IsService v → IsSeatAt z m s → IsStation s.station
    → RunsSplit s.station.post.state → (page : ℕ) → page < length z.counts
    → (is_split_at s.station.post page ≡ true) ↔ IsSlotted v.splits.slots page

-- marked pages keep slots: whatever calls a driver was asked, each marked page is in a slot in use
abbrev pub MarkedKeepSlots : Type 0
MarkedKeepSlots =
    (o : Asked) (factor : ℕ) (board : BoardId) (told : List ℕ) (finds : Bool) (v : DriverView)
    → IsSameDriver (new_driver o factor board told finds) v → IsService v
    → (page : ℕ) → Contains o.marks.items page → IsSlotted v.splits.slots page
