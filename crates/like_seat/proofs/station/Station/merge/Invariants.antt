use Rattle.std.proofs.Common.{◌≡◌, ◌-◌, ◌≤◌, List}
use Rattle.like_core.specs.declared.view.Addition.{Addition}
use Rattle.like_limits.specs.Buckets.{buckets}
use Rattle.like_seat.specs.StationView.{likes_of}
use Rattle.like_seat.proofs.WholeMerge.{Merging}
use Rattle.like_seat.proofs.station.Station.merge.Given as goal

abbrev pub invariant-loop-merged : goal.invariant-loop-merged
invariant-loop-merged g l = record {
  within : l.from ≤ buckets;
  likes : likes_of l.self ≡ likes_of l.initial.self;
  merging : (adds : List Addition) × Merging l.initial.self.post.opening.factor l.initial.self l.self l.from adds;
}

abbrev pub decreases-loop-merged : goal.decreases-loop-merged
decreases-loop-merged g l = buckets - l.from
