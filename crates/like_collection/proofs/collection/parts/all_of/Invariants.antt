use Rattle.std.proofs.Common.{◌≡◌, Ok, length, map, take}
use Rattle.like_collection.proofs.collection.parts.all_of.Given as goal

abbrev pub invariant-loop-part : goal.invariant-loop-part
invariant-loop-part l = (l.yielded ≡ map Ok l.parts.items) × (take (length l.yielded) l.fn.collected.items ≡ l.yielded)
