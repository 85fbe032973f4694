use Rattle.std.proofs.Common.{◌≡◌, length}
use Rattle.like_seat.specs.StationView.{IsStation}
use Rattle.like_live.specs.LiveView.{live_of}
use Rattle.like_live.proofs.Finding.{Finding}
use Rattle.like_live.proofs.live_seat.moves.find_all.Given as goal

abbrev pub invariant-loop-asked : goal.invariant-loop-asked
invariant-loop-asked g l = record {
  finding : Finding (live_of l.initial.station l.initial.found) (live_of l.station l.found);
  station : IsStation l.station;
  capacity : l.found.capacity ≡ l.initial.found.capacity;
}

abbrev pub decreases-loop-asked : goal.decreases-loop-asked
decreases-loop-asked g l = length l.station.stash.looks
