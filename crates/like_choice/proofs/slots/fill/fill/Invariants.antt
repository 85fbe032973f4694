use Rattle.std.proofs.Common.{take}
use Rattle.like_choice.specs.Steps.{Fills}
use Rattle.like_choice.proofs.slots.fill.fill.Given as goal

abbrev pub invariant-loop-page : goal.invariant-loop-page
invariant-loop-page l =
    Fills l.factor l.pages (take l.page-index l.proposed) l.initial.slots l.initial.bits l.slots l.bits
