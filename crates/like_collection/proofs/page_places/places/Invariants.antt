use Rattle.std.proofs.Common.{◌≡◌, ℕ, ◌<◌, [], get_or, length, take}
use Rattle.like_promises.specs.places.Places.{lists_in, places_in}
use Rattle.like_collection.proofs.page_places.places.Given as goal

abbrev pub invariant-loop-log : goal.invariant-loop-log
invariant-loop-log l = record {
  worker : l.worker ≡ l.log-index;
  sized : length (lists_in l.rows.items) ≡ l.pages;
  each : (page : ℕ) → page < l.pages
      → get_or (lists_in l.rows.items) page [] ≡ places_in page (take l.log-index l.logs);
}
