use Rattle.std.proofs.Common.{◌≡◌, ℕ, ◌&&◌, nat_lt}
use Rattle.like_core.specs.Functions.{has_bit}
use Rattle.like_choice.specs.Steps.{stays}
use Rattle.like_choice.proofs.slots.kept.kept.Given as goal

abbrev pub invariant-loop-slot : goal.invariant-loop-slot
invariant-loop-slot l =
    (slot : ℕ) → has_bit l.kept slot ≡ (nat_lt slot l.slot && stays l.slots l.bits l.marks l.proposed slot)
