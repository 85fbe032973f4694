use Rattle.std.proofs.Common.{slice_index}
use Rattle.like_seat.specs.Kept.{IsFilledBySlots}
use Rattle.like_seat.proofs.tables.split_slots.Given as goal

abbrev pub invariant-loop-slot : goal.invariant-loop-slot
invariant-loop-slot g l = IsFilledBySlots l.initial.slice (slice_index l.pages) l.used l.slot l.slice
