use Rattle.std.proofs.Common.{◌≡◌, length}
use Rattle.like_collection.proofs.collection.parts.uncollected.Given as goal

abbrev pub invariant-loop-place : goal.invariant-loop-place
invariant-loop-place l = length l.places.items ≡ l._place
