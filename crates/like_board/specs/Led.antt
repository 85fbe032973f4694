-- A board that a coordinator leads: what it tells, who leads it, and what a look and other steps leave.
use Rattle.std.specs.Prelude.{◌≡◌, ℕ, ◌≤◌, true, List, [], ⊤, slice_set}
use lib.ListN.{get_elem?}
use mathlib.Core.Option.{some}
use Rattle.like_core.specs.Types.{Coord, CoordSeatView, CoordSight, Opening, View}
use Rattle.like_core.specs.{Phase.IsSplit, views.Actions.Surveys, views.Shows.IsKnown, views.Views.looked_coord}
use Rattle.like_board.specs.{Own.ShowsWorkers, Seats.BoardId}

-- what a board tells: one that threads share tells which it is, and one that a thread owns what all its seats know
pub data BoardView : Type 0 where
  shared : (board : BoardId) → BoardView
  owned : (opening : Opening) → (views : List View) → BoardView

-- no board that threads share
abbrev pub no_board : BoardId
no_board = record { words = 0; slots = 0; views_name = 0; atom = 0; block = 0; offset = 0; slot_names = [] }

-- the coordinator's seat of that board, which knows this, may step on this one
abbrev pub IsLedBy : BoardView → BoardId → CoordSeatView → Type 0
IsLedBy (shared here) board c = board ≡ here
IsLedBy (owned opening views) board c = get_elem? views 0 ≡ some (Coord c)

-- the board after steps of its coordinator's seat, once that knows this
abbrev pub led : BoardView → CoordSeatView → BoardView
led (shared here) c = shared here
led (owned opening views) c = owned opening (slice_set views 0 (Coord c))

-- the coordinator's sight in this phase shows who is in and who is gone, where the board tells that
abbrev pub ShowsTold : BoardView → ℕ → CoordSight → Type 0
ShowsTold (shared here) phase sight = ⊤
ShowsTold (owned opening views) phase sight = ShowsWorkers phase views sight

-- what a look can show: the present phase, which is no later than the last; whether it is ending; all in, once a look at
-- this phase showed that, in a service one at its ending; and all gone in a split phase only where the last sight before
-- its release showed that
pub record IsSightOf (c : CoordSeatView) (sight : CoordSight) : Type 0 where
  pub number : sight.number ≡ c.phase
  pub within : c.phase ≤ c.opening.limits.last_phase
  pub ending : sight.ending ≡ c.ending
  pub all_in : c.all_in ≡ true → sight.all_in ≡ true
  pub all_gone : IsSplit c.phase → sight.all_gone ≡ true → c.gone ≡ true

-- the coordinator's seat looks, and sees this: the look is the core's event, and there is a moment at which the seat
-- knows this
pub record SeatSees (c : CoordSeatView) (sight : CoordSight) (after : CoordSeatView) : Type 0 where
  pub shows : IsSightOf c sight
  pub event : Surveys c sight after
  pub saw : after ≡ looked_coord c after.word sight
  pub known : IsKnown c.opening (Coord after)
