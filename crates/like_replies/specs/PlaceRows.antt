-- The rows of places, and the text of a report with them.
use Rattle.std.specs.Prelude.{ℕ, if◌then◌else◌, List, [], ◌∷◌, ◌++◌, map, codes, decimal, flat_map}
use Rattle.std.specs.List.{enumerate_from}
use Rattle.like_requests.specs.Pages.{Page}
use Rattle.like_promises.specs.{Collected.rows_of, Types.Place, Types.Report, places.Places.lists_in}
use Rattle.like_replies.specs.Rows.{name_of, report_rows, rows_text}
use Rattle.like_replies.specs.{Reported.shown_with, declared.extent.Extent.Extent}

-- the row of a place of a page: the page's number, the worker, the phase, the count before, the page's name, the likes
abbrev pub place_row : List Page → ℕ → Place → List (List ℕ)
place_row pages page p =
    codes "place" ∷ decimal page ∷ decimal p.worker ∷ decimal p.phase ∷ decimal p.old
    ∷ name_of pages page ∷ decimal p.n ∷ []

-- the rows of all places, by pages from 0
abbrev pub place_rows : List Page → List (List Place) → List (List (List ℕ))
place_rows pages rows = flat_map (λ p. map (place_row pages p.0) p.1) (enumerate_from 0 rows)

-- the text of a report, or of its totals alone; the rows of its places follow if they are asked for
abbrev pub text_of : Extent → List Page → Report → List ℕ
text_of extent pages report =
    rows_text (report_rows pages (shown_with (if extent.totals then [] else rows_of report.replies) report))
    ++ (if extent.places then rows_text (place_rows pages (lists_in report.places.items)) else [])
