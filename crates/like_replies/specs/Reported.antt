-- What a report's text shows of it, as lists.
use Rattle.std.specs.Prelude.{ℕ, List, Option}
use Rattle.like_promises.specs.{Collected.rows_of, Types.Answer, Types.Chosen, Types.Report}

-- the answers by submitter and number, the final count of each page, the page of each user's last like, and the phases
-- with hot pages
pub record Reported : Type 0 where
  pub replies : List (List Answer)
  pub counts : List ℕ
  pub last : List (Option ℕ)
  pub hot : List Chosen

abbrev pub reported : Report → Reported
reported r =
    record { replies = rows_of r.replies; counts = r.counts.items; last = r.last.items; hot = r.hot.items }

-- what is shown of a report with these answers in place of its own
abbrev pub shown_with : List (List Answer) → Report → Reported
shown_with replies r = record (reported r) { replies = replies }
