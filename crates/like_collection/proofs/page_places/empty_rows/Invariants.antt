use Rattle.std.proofs.Common.{◌≡◌, [], replicate}
use Rattle.like_promises.specs.places.Places.{lists_in}
use Rattle.like_collection.proofs.page_places.empty_rows.Given as goal

abbrev pub invariant-loop-page : goal.invariant-loop-page
invariant-loop-page l = lists_in l.rows.items ≡ replicate l._page []
