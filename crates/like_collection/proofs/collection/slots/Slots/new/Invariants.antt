use Rattle.std.proofs.Common.{◌≡◌, None, map, replicate, take}
use Rattle.like_collection.proofs.collection.slots.Slots.new.Given as goal

abbrev pub invariant-loop-size : goal.invariant-loop-size
invariant-loop-size l = l.rows.items ≡ map (λ size. replicate size None) (take l.size-index l.sizes)
