use Rattle.std.proofs.Common.{◌≡◌, fold, take}
use Rattle.like_core.specs.core.Table.{Permits, next}
use Rattle.like_core.specs.Functions.{MayAll}
use Rattle.like_core.specs.core.Core.{numbers_of}
use Rattle.like_core.proofs.pure_core.sequence.check_events.Given as goal

abbrev pub invariant-loop-index : goal.invariant-loop-index
invariant-loop-index l =
    MayAll next Permits (numbers_of l.initial.core) (take l.index l.events) ×
    (numbers_of l.core ≡ fold next (numbers_of l.initial.core) (take l.index l.events))
