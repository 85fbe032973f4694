-- A board that one thread owns, and its seats.
use Rattle.std.specs.Prelude.{◌≡◌, ◌↔◌, ℕ, ◌+◌, true, List, Some, slice_get, slice_set}
use lib.ListN.{get_elem?}
use mathlib.Core.Option.{some}
use Rattle.like_core.specs.Types.{Coord, CoordSeatView, CoordSight, Gone, Opening, Sight, View, Worker, WorkerSeatView}
use Rattle.like_core.specs.{Post.fresh, WorkerState.IsIn, views.Places.count_after}
use Rattle.own_table.specs.Table.{key_of, views_of}
use Rattle.like_board.specs.declared.own_board.{OwnBoard.OwnBoard, coord_seat.OwnCoordSeat.OwnCoordSeat}
use Rattle.like_board.specs.declared.own_board.{worker_seat.OwnWorkerSeat.OwnWorkerSeat}
use Rattle.like_board.specs.{Known.coord_view_of, Known.worker_view_of, Rule.opening_of}

-- the board's opening
abbrev pub own_opening : OwnBoard → Opening
own_opening board = opening_of (key_of board.table)

-- the views of all its seats: the coordinator's first, then each worker's
abbrev pub own_views : OwnBoard → List View
own_views board = views_of board.table

-- what a worker's seat knows, and its place among the views
abbrev pub own_view : OwnWorkerSeat → WorkerSeatView
own_view seat = worker_view_of seat.access.me.0

abbrev pub own_place : OwnWorkerSeat → ℕ
own_place seat = seat.access.id

-- what the coordinator's seat knows
abbrev pub own_coord : OwnCoordSeat → CoordSeatView
own_coord seat = coord_view_of seat.access.me.0

-- the seat at this place of the board knows this
abbrev pub Knows : OwnBoard → ℕ → View → Type 0
Knows board place v = get_elem? (own_views board) place ≡ some v

-- the seat at this place made a step, after which it knows this: what all others know is the same
pub record Steps (a b : OwnBoard) (place : ℕ) (v : View) : Type 0 where
  pub opening : own_opening b ≡ own_opening a
  pub views : own_views b ≡ slice_set (own_views a) place v

-- a worker's sight shows the phase that the coordinator knows, and whether it is ending
abbrev pub ShowsPhase : List View → Sight → Type 0
ShowsPhase views sight =
    (c : CoordSeatView) → get_elem? views 0 ≡ some (Coord c)
    → (sight.number ≡ c.phase) × (sight.ending ≡ c.ending)

-- the coordinator's sight in this phase shows which workers are in, by what their seats know, and which are gone
pub record ShowsWorkers (phase : ℕ) (views : List View) (sight : CoordSight) : Type 0 where
  pub all_in : (sight.all_in ≡ true)
      ↔ ((place : ℕ) (v : WorkerSeatView) → get_elem? views place ≡ some (Worker v) → IsIn phase v.state)
  pub all_gone : (sight.all_gone ≡ true)
      ↔ ((place : ℕ) (v : WorkerSeatView) → get_elem? views place ≡ some (Worker v) → v.state ≡ Gone)

-- a page's count that was found is the one at the start, as the coordinator knows it, and all that the seats have added
-- by then
abbrev pub IsPresentCount : List View → ℕ → ℕ → Type 0
IsPresentCount views page count =
    (c : CoordSeatView) → get_elem? views 0 ≡ some (Coord c) → count ≡ count_after c.opening.counts views page

-- the seats of a board's workers, in order; none has made a step yet
abbrev pub AreNewOwn : OwnBoard → List OwnWorkerSeat → Type 0
AreNewOwn board seats =
    (i : ℕ) (seat : OwnWorkerSeat) → slice_get seats i ≡ Some seat
    → (own_place seat ≡ i + 1) × (own_view seat ≡ fresh (own_opening board) i)
