-- A crew whose thread owns its board.
use Rattle.std.specs.Prelude.{◌≡◌, ℕ, ◌+◌, List, map, slice_get, Some}
use Rattle.like_core.specs.Types.{CoordSeatView, View}
use Rattle.like_board.specs.{Own.own_place, Own.own_view, declared.own_board.worker_seat.OwnWorkerSeat.OwnWorkerSeat}
use Rattle.like_crew.specs.{Fresh.views_with, OwnServer.OwnServerView, Server.ServerView}

abbrev pub servers_of : List OwnServerView → List ServerView
servers_of owned = map (λ s. s.server) owned

-- the seats of a board with these views are the coordinator's, which knows this, and those of the servers, in order
pub record AreSeated (views : List View) (c : CoordSeatView) (owned : List OwnServerView) : Type 0 where
  pub views_are : views ≡ views_with c (servers_of owned)
  pub places : (worker : ℕ) (s : OwnServerView) → slice_get owned worker ≡ Some s → s.place ≡ worker + 1

-- the seat that a server leaves
pub record IsOwnSeatOf (s : OwnServerView) (seat : OwnWorkerSeat) : Type 0 where
  pub view : own_view seat ≡ s.server.worker.post
  pub place : own_place seat ≡ s.place
