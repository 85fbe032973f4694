use Rattle.std.proofs.Common.{◌≡◌, Some, map, take}
use Rattle.like_collection.specs.Slots.{answers_there}
use Rattle.like_collection.proofs.collection.slot_row.SlotRow.into_answers.Given as goal

abbrev pub invariant-loop-place : goal.invariant-loop-place
invariant-loop-place l =
    take l.place (answers_there l.is_there-items l.answers.items) ≡ map Some (take l.place l.answers.items)
