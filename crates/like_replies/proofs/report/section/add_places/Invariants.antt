use Rattle.std.proofs.Common.{◌≡◌, ◌++◌, take, map}
use Rattle.like_replies.specs.PlaceRows.{place_row}
use Rattle.like_replies.specs.Rows.{rows_text}
use Rattle.like_replies.proofs.report.section.add_places.Given as goal

abbrev pub invariant-loop-place : goal.invariant-loop-place
invariant-loop-place l =
    l.sheet ≡ l.initial.sheet ++ rows_text (map (place_row l.names l.page) (take l.place-index l.places))
