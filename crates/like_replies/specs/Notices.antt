-- The notice on a report, beside it.
use Rattle.std.specs.Prelude.{ℕ, Bool, if◌then◌else◌, List, Option, None, Some, ◌==◌}
use Rattle.like_promises.specs.Types.{Report}
use Rattle.like_replies.specs.Summary.{count_replies, is_refusal, summary_of, summary_text}
use Rattle.like_replies.specs.declared.notice.Notice.TheVariants.{Refused, Summed}
use Rattle.like_replies.specs.{Refusals.refusals_line, declared.notice.Notice.Notice}

-- the summary of a report if it is asked for, else its refused requests if there are any
abbrev pub notice_of : Bool → Report → Option Notice
notice_of is_asked r =
    if is_asked then Some (Summed (summary_of r))
    else (if count_replies is_refusal r.replies == 0 then None else Some (Refused (summary_of r)))

-- the text of a notice
abbrev pub notice_text : Notice → List ℕ
notice_text (Summed summary) = summary_text summary
notice_text (Refused summary) = refusals_line summary
