use Rattle.std.proofs.Common.{◌≡◌, ℕ, ◌<◌, ◌≤◌, [], get_or, length}
use Rattle.like_promises.specs.places.Places.{AreByOld, lists_in}
use Rattle.like_collection.proofs.page_places.sort_all.Given as goal

abbrev pub invariant-loop-page : goal.invariant-loop-page
invariant-loop-page l = record {
  sized : length (lists_in l.rows.items) ≡ length (lists_in l.initial.rows.items);
  done : (k : ℕ) → k < l.page
      → AreByOld (get_or (lists_in l.initial.rows.items) k []) (get_or (lists_in l.rows.items) k []);
  rest : (k : ℕ) → l.page ≤ k → get_or (lists_in l.rows.items) k [] ≡ get_or (lists_in l.initial.rows.items) k [];
}
