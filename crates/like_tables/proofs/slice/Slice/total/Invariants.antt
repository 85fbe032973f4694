use Rattle.std.proofs.Common.{◌≡◌, sum, take}
use Rattle.like_tables.proofs.slice.Slice.total.Given as goal

abbrev pub invariant-loop-likes : goal.invariant-loop-likes
invariant-loop-likes l = l.total ≡ sum (take l.likes-index l.likes-items)
