-- What a run has left once its board is closed.
use Rattle.std.specs.Prelude.{◌≡◌, List}
use Rattle.std.specs.List.{AllZip}
use Rattle.like_board.specs.{Closed.IsClosedBoard, Seats.seat_view, declared.worker_seat.WorkerSeat.WorkerSeat}
use Rattle.like_roles.specs.coordinator.CoordTurns.{ChoseByCounts, HasEndedJoined}
use Rattle.like_crew.specs.{Crew.CrewView, Server.IsLogOf, Server.ServerView, declared.outcome.Outcome.Outcome}

-- the seat knows what the server's post does, whatever the boards are
abbrev pub IsSeatLike : ServerView → WorkerSeat → Type 0
IsSeatLike s seat = seat_view seat ≡ s.worker.post

-- a crew of which this holds, and whose coordinator found the run ended in a joined phase, has left this: the logs of its
-- servers, what its coordinator knows and chose, and the last counts of its board
pub record IsOutcome (Of : CrewView → Type 0) (o : Outcome) : Type 0 where
  pub crew : CrewView
  pub of : Of crew
  pub ended : HasEndedJoined crew.coordinator
  pub logs : AllZip IsLogOf crew.servers o.logs.items
  pub seats : List WorkerSeat
  pub seats_are : AllZip IsSeatLike crew.servers seats
  pub counts : IsClosedBoard crew.coordinator.seat seats o.counts.items
  pub phases : o.phases ≡ crew.coordinator.phase
  pub chosen : o.chosen.items ≡ crew.coordinator.choice.chosen
  pub chose : ChoseByCounts crew.coordinator
