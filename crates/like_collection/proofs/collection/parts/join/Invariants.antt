use Rattle.std.proofs.Common.{◌≡◌, ◌<◌, ◌≤◌, ℕ, [], get_or, length, map}
use Rattle.like_promises.specs.Collected.{rows_of}
use Rattle.like_collection.specs.Parts.{row_in}
use Rattle.like_collection.proofs.Parts.{tables}
use Rattle.like_collection.proofs.collection.parts.join.Given as goal

abbrev pub invariant-loop-submitter : goal.invariant-loop-submitter
invariant-loop-submitter l = record {
  made : length l.rows.items ≡ l.submitter;
  done : (k : ℕ) → k < l.submitter
      → get_or (map (λ row. row.items) l.rows.items) k [] ≡ row_in (tables l.initial.parts.items) k;
  rest : (k : ℕ) → l.submitter ≤ k → row_in (tables l.parts.items) k ≡ row_in (tables l.initial.parts.items) k;
  sizes : map (λ part. length (rows_of part)) l.parts.items ≡ map (λ part. length (rows_of part)) l.initial.parts.items;
}
