use Rattle.std.proofs.Common.{◌≡◌, ◌<◌, ◌++◌, ℕ, List, length, map}
use Rattle.std.specs.Slice.Iter.{chunks_rest}
use Rattle.like_requests.specs.Pages.{Page}
use Rattle.like_promises.specs.declared.place.Place.{Place}
use Rattle.like_replies.specs.PlaceRows.{place_row}
use Rattle.like_replies.specs.Sections.{AreSections}
use Rattle.like_replies.proofs.report.sections.push_places.Given as goal

abbrev pub invariant-loop-part : goal.invariant-loop-part
invariant-loop-part l =
    (goal.iterator-loop-part).can_next l.part-iterator × (goal.iterator-loop-part).is_finite l.part-iterator
    × (done : List Place) × (l.places ≡ done ++ chunks_rest l.part-iterator)
    × ((pages : List Page) (rows : List (List (List ℕ))) → AreSections pages rows l.initial.all.items
    → l.page < length pages
    → AreSections pages (rows ++ map (place_row pages l.page) done) l.all.items)
