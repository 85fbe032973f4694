-- What is known of a board where all workers' seats were given back.
use Rattle.std.specs.Prelude.{◌≡◌, ℕ, ◌^◌, ◌<◌, All, List, [], length, map, slice_index}
use Rattle.like_core.specs.Types.{Coord, CoordSeatView, LogEntry, View, WorkerSeatView}
use Rattle.like_core.specs.views.{Layout.word_of, Reads.HaveBetween, Reads.IsCounted, Views.gathered_all}
use Rattle.like_core.specs.views.{PostOrder.HavePlaces, PostOrder.IsOrderOf, Posts.last_count, Posts.posts_before}
use Rattle.like_core.specs.{PhaseMasks.AreMasksOf, PhaseMasks.mask_of, WorkerState.SawNoLater}
use Rattle.like_board.specs.{Seats.AreAll, Seats.seat_view, declared.worker_seat.WorkerSeat.WorkerSeat}

-- the coordinator's view, after each worker's seat was given back to it
pub record HasAllBack (v : View) (c : CoordSeatView) (seats : List WorkerSeat) : Type 0 where
  pub view : v ≡ Coord (gathered_all c (map seat_view seats))
  pub none : c.joined ≡ []
  pub made : c.made ≡ c.opening.workers
  pub all : AreAll c.opening.workers seats

-- what is known of a closed board: how many pages it has, and how the steps of all seats, which know this, fit
-- together
pub record IsClosed (c : CoordSeatView) (posts : List WorkerSeatView) : Type 0 where
  pub few_pages : length c.opening.counts < 2 ^ 32
  -- no worker saw a greater number than the coordinator's phase
  pub phases : All (λ v. SawNoLater c.phase v.last) posts
  -- each count that a worker read or glanced at has all additions of earlier phases, none of later ones, and its own so
  -- far; the stretch of each addition has its place between these too; and none is of a later phase
  pub between : All (HaveBetween c.opening.counts (posts_before posts) c.phase) posts
  -- each count that the coordinator read has all additions up to its phase
  pub counted : All (IsCounted c.opening.counts (posts_before posts)) c.counted
  -- each mask that a worker read is the one with which the coordinator released its phase
  pub masks : All (λ v. AreMasksOf (mask_of c.masks) v.masks) posts
  -- the stretches of all additions tile each page's counts, and each count that a worker read has its place there
  pub places : HavePlaces (slice_index c.opening.counts) posts
  -- all that the workers made has one order, which their entries and numbers fix
  pub log : List LogEntry
  pub order : IsOrderOf (slice_index c.opening.counts) c.phase posts log

-- a page's last count, where these seats were given back to the coordinator's
abbrev pub count_with : CoordSeatView → List WorkerSeat → ℕ → ℕ
count_with c seats page = last_count (slice_index c.opening.counts) (map seat_view seats) page

-- a board was closed with these seats: its last counts, and what is known of the seats' steps
pub record IsClosedBoard (c : CoordSeatView) (seats : List WorkerSeat) (counts : List ℕ) : Type 0 where
  -- one for each page
  pub len : length counts ≡ length c.opening.counts
  -- the page's count at the start and all that was added to it
  pub totals : (page : ℕ) → page < length counts → slice_index counts page ≡ count_with c seats page
  pub closed : IsClosed c (map seat_view seats)

-- what a read of a word tells once all seats are back: what is known of a closed board, and a page's last count
pub record TellsLast (word : ℕ) (v : View) (found : ℕ) : Type 0 where
  pub closed : (c : CoordSeatView) (seats : List WorkerSeat) → HasAllBack v c seats → IsClosed c (map seat_view seats)
  pub count : (c : CoordSeatView) (seats : List WorkerSeat) → HasAllBack v c seats
      → (page : ℕ) → word ≡ word_of page → page < length c.opening.counts → found ≡ count_with c seats page
