use Rattle.std.proofs.Common.{◌≡◌, List, length, take}
use Rattle.like_requests.specs.Pages.{Page}
use Rattle.like_promises.specs.places.Places.{lists_in}
use Rattle.like_replies.specs.PlaceRows.{place_rows}
use Rattle.like_replies.specs.Sections.{AreSections}
use Rattle.like_replies.proofs.report.sections.place_sections.Given as goal

abbrev pub invariant-loop-page : goal.invariant-loop-page
invariant-loop-page l = (named : List Page) → length named ≡ l.pages
    → AreSections named (place_rows named (lists_in (take l.page l.places))) l.all.items
