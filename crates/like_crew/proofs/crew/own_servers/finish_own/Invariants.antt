use Rattle.std.specs.List.{AllZip}
use Rattle.like_crew.specs.OwnCrew.{IsOwnSeatOf, servers_of}
use Rattle.like_crew.specs.Server.{IsLogOf}
use Rattle.like_crew.proofs.crew.own_servers.finish_own.Given as goal

abbrev pub invariant-loop-server : goal.invariant-loop-server
invariant-loop-server g l = record {
  logs : AllZip IsLogOf (servers_of l.yielded) l.logs.items;
  seats : AllZip IsOwnSeatOf l.yielded l.seats.items;
}
