use Rattle.std.proofs.Common.{◌≡◌, ℕ, ◌<◌, ◌++◌, [], get_or, length, take}
use Rattle.like_promises.specs.places.Places.{lists_in, places_of}
use Rattle.like_collection.proofs.page_places.add_places.Given as goal

abbrev pub invariant-loop-added : goal.invariant-loop-added
invariant-loop-added l = record {
  sized : length (lists_in l.rows.items) ≡ length (lists_in l.initial.rows.items);
  each : (page : ℕ) → page < length (lists_in l.initial.rows.items) → get_or (lists_in l.rows.items) page []
      ≡ get_or (lists_in l.initial.rows.items) page [] ++ places_of page l.worker (take l.added-index l.adds);
}
