-- What the tests know of a board and of those at it.
use Rattle.std.specs.Prelude.{◌≡◌, ℕ, ◌+◌, ◌^◌, ◌<◌, ◌≤◌, Bool, true, List, length, Option, None, Some, IsSome}
use Rattle.like_limits.specs.Limits.{hot_pages}
use Rattle.like_core.specs.PhaseMasks.{HasMask, mask_of}
use Rattle.like_core.specs.Types.{CoordSeatView, CoordSight, Limits, WorkerSeatView}
use Rattle.like_core.specs.{Additions.added_to, Additions.all_added, PageSteps.additions_among, Phase.is_hot}
use Rattle.like_core.specs.{Phase.is_marked, Post.KnowsSplit, Post.is_split_at, Post.pages_of, WorkerState.IsRunning}
use Rattle.like_board.specs.Seats.{AreFresh, BoardId, board_numbers, coord_board, coord_view, seat_board}
use Rattle.like_board.specs.declared.{coord_seat.CoordSeat.CoordSeat, worker_seat.WorkerSeat.WorkerSeat}
use Rattle.test_parts.specs.declared.known.Known.{Known}

-- the seats of a board of this many pages, whose first is marked or is not, within these limits, which give it no
-- slots; no call was made on them
pub record AreOpened (board : BoardId) (pages : ℕ) (marked : Bool) (limits : Limits) (coord : CoordSeat)
    (seats : List WorkerSeat) : Type 0 where
  pub here : coord_board coord ≡ board
  pub fresh : AreFresh board (coord_view coord).opening seats
  pub unseen : (coord_view coord).last ≡ None
  pub limits_are : (coord_view coord).opening.limits ≡ limits
  pub plain : limits.hot ≡ hot_pages
  pub counted : length (coord_view coord).opening.counts ≡ pages
  pub sized : length (coord_view coord).opening.marks ≡ pages
  pub first : is_marked (coord_view coord).opening.marks 0 ≡ marked

-- page 0 is hot by the mask that the post read of a phase
pub record IsFirstHot (v : WorkerSeatView) (phase : ℕ) : Type 0 where
  pub read : HasMask phase v.masks
  pub hot : is_hot (mask_of v.masks phase) 0 ≡ true

-- what is known of a post is true
pub record IsKnown (v : WorkerSeatView) (k : Known) : Type 0 where
  pub state : v.state ≡ k.state
  pub last : v.last ≡ k.last
  pub pages : pages_of v ≡ k.pages
  pub marked : is_marked v.opening.marks 0 ≡ k.is_marked
  pub hot : (phase : ℕ) → k.hot_in ≡ Some phase → IsFirstHot v phase
  pub room : all_added (additions_among v.did) + k.room ≤ v.opening.limits.likes
  pub likes : added_to 0 (additions_among v.did) ≡ k.likes
  -- no number that is known can wrap
  pub few_phases : v.opening.limits.last_phase < 2 ^ 64
  -- its board has no slots
  pub plain : v.opening.limits.hot ≡ hot_pages
  pub few_likes : k.likes + k.room < 2 ^ 64

-- the post is the same worker's, at the same board
pub record KeepsPlace (was : List ℕ) (old : WorkerSeatView) (is : List ℕ) (new : WorkerSeatView) : Type 0 where
  pub board : is ≡ was
  pub worker : new.worker ≡ old.worker

-- the post runs a phase in which page 0 is sliced, and knows it
pub record SplitsFirst (v : WorkerSeatView) : Type 0 where
  pub there : 0 < pages_of v
  pub runs : IsRunning v.state
  pub known : KnowsSplit v 0
  pub split : is_split_at v 0 ≡ true

-- the numbers of a seat's board
abbrev pub seat_numbers : WorkerSeat → List ℕ
seat_numbers seat = board_numbers (seat_board seat)

-- a seat at the board with these numbers is this worker's, at this board
pub record IsWorkerAt (board : BoardId) (worker : ℕ) (numbers : List ℕ) (v : WorkerSeatView) : Type 0 where
  pub board_is : numbers ≡ board_numbers board
  pub worker_is : v.worker ≡ worker

-- the coordinator's seat is that of a board of this many workers and one page
pub record IsCoordOf (board : BoardId) (workers : ℕ) (coord : CoordSeat) : Type 0 where
  pub here : coord_board coord ≡ board
  pub workers_are : (coord_view coord).opening.workers ≡ workers
  pub one_count : length (coord_view coord).opening.counts ≡ 1

-- what is known of the seat of a board of one page that has no slots is true: its last sight, if it has neither announced
-- nor released since, and that it has published a mask since that look
pub record IsLed (c : CoordSeatView) (saw : Option CoordSight) (published : Bool) : Type 0 where
  pub one_page : length c.opening.counts ≡ 1
  pub plain : c.opening.limits.hot ≡ hot_pages
  pub last : c.last ≡ saw
  pub within : IsSome saw → c.phase ≤ c.opening.limits.last_phase
  pub masked : published ≡ true → IsSome c.published

-- the coordinator's seat is still at its board, which began so
pub record KeepsSeat (old new : CoordSeat) : Type 0 where
  pub board : coord_board new ≡ coord_board old
  pub opening : (coord_view new).opening ≡ (coord_view old).opening
