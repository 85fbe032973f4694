-- What a service is when it is opened, and what is known when it is closed.
use Rattle.std.specs.Prelude.{◌≡◌, ℕ, ◌+◌, ◌<◌, ◌==◌, All, List, length, map, slice_get, slice_index, Some, count_by, sum_by}
use Rattle.std.specs.List.{AllZip}
use Rattle.like_core.specs.{Post.additions_of, Post.fresh, Types.Gone, Types.WorkerSeatView}
use Rattle.like_board.specs.Seats.{BoardId, board_numbers, seat_board, seat_view}
use Rattle.like_board.specs.{Closed.IsClosed, declared.worker_seat.WorkerSeat.WorkerSeat}
use Rattle.like_tables.specs.{Factors.IsFirstApart, Share.share_of, UserTable.table_with_lasts}
use Rattle.like_live.specs.Driver.{DriverView, IsSameDriver, new_driver}
use Rattle.like_live.specs.LiveView.{IsNewLive, IsSameSeat, LiveView, tally}
use Rattle.like_live.specs.{Opening.IsWithinLimits, Opening.board_opening, Types.Opening}

-- a seat of an opened service, by its number: it is new, at this board; its users are those with this number modulo the
-- number of seats; and they have the opening's last likes
abbrev pub IsOpenedSeat : Opening → ℕ → BoardId → ℕ → LiveView → Type 0
IsOpenedSeat o factor board number s =
    IsNewLive (board_numbers board) (fresh (board_opening o factor) number) o.room
    (table_with_lasts (share_of o.users o.seats o.seats number) o.lasts.items) s

-- the seats of an opened service, in order
pub record AreOpenedSeats (o : Opening) (factor : ℕ) (board : BoardId) (seats : List LiveView) : Type 0 where
  pub len : length seats ≡ o.seats
  pub each : (i : ℕ) (s : LiveView) → slice_get seats i ≡ Some s → IsOpenedSeat o factor board i s

-- a driver and seats of a service that was opened so: every limit holds, and they are new ones of one board
pub record AreOpened (o : Opening) (driver : DriverView) (seats : List LiveView) : Type 0 where
  pub within : IsWithinLimits o
  pub factor : ℕ
  pub first : IsFirstApart o.marks.items factor
  pub new : driver ≡ new_driver o factor driver.lead.board driver.splits.told driver.splits.finds
  pub fresh : AreOpenedSeats o factor driver.lead.board seats

-- the seats are those of the driver's board, each of them once
pub record AreItsSeats (v : DriverView) (seats : List LiveView) : Type 0 where
  pub len : length seats ≡ v.lead.seat.opening.workers
  pub here : All (λ s. s.station.board ≡ board_numbers v.lead.board) seats
  pub all : (i : ℕ) → i < v.lead.seat.opening.workers → count_by (λ s. s.station.post.worker == i) seats ≡ 1

-- calls of the driver and of its seats keep them so
abbrev pub CallsKeepSeats : Type 0
CallsKeepSeats =
    (v w : DriverView) (seats after : List LiveView)
    → AreItsSeats v seats → IsSameDriver v w → AllZip IsSameSeat seats after → AreItsSeats w after

-- all seats are gone
abbrev pub AreGone : List LiveView → Type 0
AreGone seats = All (λ s. s.station.post.state ≡ Gone) seats

-- once it is gone, all its likes are added
abbrev pub HasMergedOnceGone : LiveView → Type 0
HasMergedOnceGone s = s.station.post.state ≡ Gone → (page : ℕ) → tally s page ≡ additions_of s.station.post page

-- what seats know as posts
abbrev pub posts_at : List LiveView → List WorkerSeatView
posts_at seats = map (λ s. s.station.post) seats

-- the workers' seats that were given back by these seats: of the same boards, and they know the same
pub record AreBackFrom (seats : List LiveView) (back : List WorkerSeat) : Type 0 where
  pub boards : map (λ seat. board_numbers (seat_board seat)) back ≡ map (λ s. s.station.board) seats
  pub views : map seat_view back ≡ posts_at seats

-- what is known of a closed service: each page's last count is its first one and the tallies of all seats; and what is
-- known of a closed board, where the driver has the coordinator's seat
pub record IsClosedService (v : DriverView) (seats : List LiveView) (counts : List ℕ) : Type 0 where
  pub len : length counts ≡ length v.lead.seat.opening.counts
  pub totals : (page : ℕ) → page < length counts
      → slice_index counts page ≡ slice_index v.lead.seat.opening.counts page + sum_by (λ s. tally s page) seats
  pub closed : IsClosed v.lead.seat (posts_at seats)
