use Rattle.std.proofs.Common.{ℕ, List, ◌++◌, take}
use Rattle.like_promises.specs.declared.log.Ran.{Ran}
use Rattle.like_collection.specs.Slots.{HoldsAll}
use Rattle.like_collection.proofs.collection.slots.Slots.put_all.Given as goal

abbrev pub invariant-loop-entry : goal.invariant-loop-entry
invariant-loop-entry l =
    (sizes : List ℕ) (before : List Ran) → HoldsAll sizes before l.initial.self
    → HoldsAll sizes (before ++ take l.entry-index l.ran) l.self
