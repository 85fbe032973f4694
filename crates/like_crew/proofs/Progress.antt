-- How far a crew is, in the words of the model of `like_ending`.
use Rattle.std.proofs.Common.{List, map}
use Rattle.like_ending.specs.Progress.{CrewProgress}
use Rattle.like_roles.specs.coordinator.CoordTurns.{CoordinatorView}
use Rattle.like_crew.specs.Crew.{CrewView}
use Rattle.like_crew.specs.Progress.{progress_of}
use Rattle.like_crew.specs.Server.{ServerView}

-- how far a coordinator with these servers is
abbrev pub progress_with : CoordinatorView → List ServerView → CrewProgress
progress_with v servers = record {
  phase = v.seat.phase;
  ending = v.seat.ending;
  turns = v.turns;
  left = v.left;
  workers = map progress_of servers;
}

-- how far a crew is
abbrev pub progress_in : CrewView → CrewProgress
progress_in c = progress_with c.coordinator c.servers
