-- What a crew leaves when its run has ended.
use Rattle.std.specs.Prelude.{◌≡◌, All, List}
use Rattle.std.specs.List.{AllZip}
use Rattle.like_core.specs.Types.{Gone}
use Rattle.like_board.specs.Seats.{AreAll, BoardId, board_numbers, coord_board, coord_view, seat_board, seat_view}
use Rattle.like_board.specs.declared.{coord_seat.CoordSeat.CoordSeat, worker_seat.WorkerSeat.WorkerSeat}
use Rattle.like_promises.specs.Types.{WorkerLog}
use Rattle.like_roles.specs.coordinator.CoordTurns.{ChoseByCounts, CoordinatorGoesOn, CoordinatorView, HasEndedJoined}
use Rattle.like_crew.specs.Server.{IsLogOf, ServerGoesOn, ServerView}
use Rattle.like_crew.specs.{Crew.AreGone, Crew.CrewView, declared.ended.Ended.Ended}

-- the seat that a server leaves: at its board, it knows what the server's post does
pub record IsSeatOf (s : ServerView) (seat : WorkerSeat) : Type 0 where
  pub board : board_numbers (seat_board seat) ≡ s.board
  pub view : seat_view seat ≡ s.worker.post

-- a server went on from this one until its worker was gone, and left this log and this seat
pub record HasLeft (first : ServerView) (log : WorkerLog) (seat : WorkerSeat) : Type 0 where
  pub server : ServerView
  pub later : ServerGoesOn first server
  pub gone : server.worker.post.state ≡ Gone
  pub log_is : IsLogOf server log
  pub seat_is : IsSeatOf server seat

-- all servers went on from these until their workers were gone, and left these logs and these seats
pub record HaveLeft (first : List ServerView) (logs : List WorkerLog) (seats : List WorkerSeat) : Type 0 where
  pub servers : List ServerView
  pub later : AllZip ServerGoesOn first servers
  pub gone : AreGone servers
  pub logs_are : AllZip IsLogOf servers logs
  pub seats_are : AllZip IsSeatOf servers seats

-- a board's coordinator and all of its workers, which are gone, left these seats
pub record AreLeft (board : BoardId) (coord : CoordSeat) (seats : List WorkerSeat) : Type 0 where
  pub coord_here : coord_board coord ≡ board
  pub seats_here : All (λ seat. seat_board seat ≡ board) seats
  pub all : AreAll (coord_view coord).opening.workers seats
  pub gone : All (λ seat. (seat_view seat).state ≡ Gone) seats

-- the coordinator found the run ended, in a joined phase, and chose by the counts that it read; and it left this phase,
-- this seat and its choices
pub record IsCoordinatorOf (v : CoordinatorView) (e : Ended) : Type 0 where
  pub ended : HasEndedJoined v
  pub coord : coord_board e.coord ≡ v.board
  pub view : coord_view e.coord ≡ v.seat
  pub phases : e.phases ≡ v.phase
  pub chosen : e.chosen.items ≡ v.choice.chosen
  pub chose : ChoseByCounts v

-- a crew of which this holds went on until its run had ended, and left this
pub record IsEnded (Of : CrewView → Type 0) (e : Ended) : Type 0 where
  pub crew : CrewView
  pub of : Of crew
  pub left : HaveLeft crew.servers e.logs.items e.seats.items
  pub coordinator : CoordinatorView
  pub later : CoordinatorGoesOn crew.coordinator coordinator
  pub coordinator_is : IsCoordinatorOf coordinator e
