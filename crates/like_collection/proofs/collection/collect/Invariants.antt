use Rattle.std.proofs.Common.{take}
use Rattle.like_promises.specs.Collected.{entries_in}
use Rattle.like_collection.specs.Slots.{HoldsAll}
use Rattle.like_collection.proofs.collection.collect.Given as goal

abbrev pub invariant-loop-log : goal.invariant-loop-log
invariant-loop-log l = HoldsAll l.sizes (entries_in (take l.log-index l.logs)) l.slots
