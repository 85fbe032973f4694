use Rattle.std.proofs.Common.{◌≡◌, Some, length, map, take}
use Rattle.like_collection.proofs.collection.slots.answer_rows.Given as goal

abbrev pub invariant-loop-row : goal.invariant-loop-row
invariant-loop-row l =
    (l.yielded ≡ map (map Some) (map (λ row. row.items) l.rows.items))
    × (take (length l.yielded) l.fn.slots.items ≡ l.yielded)
