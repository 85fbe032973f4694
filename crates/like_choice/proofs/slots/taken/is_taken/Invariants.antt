use Rattle.std.proofs.Common.{◌≡◌, ℕ, ◌<◌, true}
use Rattle.std.specs.Prelude.{slice_index}
use Rattle.like_limits.specs.Buckets.{bucket}
use Rattle.like_core.specs.Functions.{has_bit}
use Rattle.like_choice.proofs.slots.taken.is_taken.Given as goal

abbrev pub invariant-loop-slot : goal.invariant-loop-slot
invariant-loop-slot l = (k : ℕ) → k < l.slot → has_bit l.bits k ≡ true
    → ¬ (bucket l.factor (slice_index l.slots k) ≡ l.bucket)
