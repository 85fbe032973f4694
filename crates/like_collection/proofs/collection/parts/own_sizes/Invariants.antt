use Rattle.std.proofs.Common.{◌≡◌, take}
use Rattle.like_collection.specs.Parts.{own_sizes}
use Rattle.like_collection.proofs.collection.parts.own_sizes.Given as goal

abbrev pub invariant-loop-submitter : goal.invariant-loop-submitter
invariant-loop-submitter l = l.own.items ≡ own_sizes l.workers l.worker (take l.submitter l.sizes)
