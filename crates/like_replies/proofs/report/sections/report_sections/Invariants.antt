use Rattle.std.proofs.Common.{◌∷◌, List, map, take}
use Rattle.like_requests.specs.Pages.{Page}
use Rattle.like_replies.specs.Reported.{shown_with}
use Rattle.like_replies.specs.Rows.{IsWritable, header_row, reply_rows}
use Rattle.like_replies.specs.Sections.{AreSections}
use Rattle.like_replies.proofs.report.sections.report_sections.Given as goal

abbrev pub invariant-loop-submitter : goal.invariant-loop-submitter
invariant-loop-submitter l = (pages : List Page) → IsWritable pages (shown_with (map (λ row. row.items) l.replies) l.report)
    → AreSections pages
    (header_row ∷ reply_rows pages (map (λ row. row.items) (take l.submitter l.replies)))
    l.all.items
