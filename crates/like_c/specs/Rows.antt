-- The rows that cross to C.
use Rattle.std.specs.Prelude.{◌≡◌, ℕ, ◌==◌, if◌then◌else◌, Result, Ok, Err}
use Rattle.like_tables.specs.LastLike.{page_or_none}
use Rattle.like_seat.specs.declared.seen.Seen.{Seen}
use Rattle.like_live.specs.Types.{Answer, Answer as answer, Call, Call as call, Found, GlanceAnswer}
use Rattle.like_live.specs.Types.{GlanceAnswer as glance, LookAnswer, LookAnswer as look}
use Rattle.like_c.specs.Status.{between, glimpsed, gone, like_status, no_room, seen, status, unknown_op, verdict_status}
use Rattle.like_c.specs.Status.{waits}
use Rattle.like_c.specs.declared.rows.{AnswerRow.AnswerRow, FoundRow.FoundRow, RequestRow.RequestRow}

-- a status alone
abbrev pub status_row : ℕ → AnswerRow
status_row why = record { count = 0; last = 0; status = why }

-- what was seen or glimpsed, as the status says
abbrev pub shown_row : Seen → ℕ → AnswerRow
shown_row shown why = record { count = shown.count; last = page_or_none shown.last; status = why }

abbrev pub look_row : LookAnswer → AnswerRow
look_row (look.Seen shown) = shown_row shown (status seen)
look_row look.Waits = status_row (status waits)
look_row look.Between = status_row (status between)
look_row look.NoRoom = status_row (status no_room)
look_row (look.Refused verdict) = status_row (verdict_status verdict)
look_row look.Gone = status_row (status gone)

abbrev pub glance_row : GlanceAnswer → AnswerRow
glance_row (glance.Seen shown) = shown_row shown (status seen)
glance_row (glance.Glimpsed shown) = shown_row shown (status glimpsed)
glance_row glance.Between = status_row (status between)
glance_row (glance.Refused verdict) = status_row (verdict_status verdict)
glance_row glance.Gone = status_row (status gone)

-- the row of an answer
abbrev pub row_of : Answer → AnswerRow
row_of (answer.Like a) = status_row (like_status a)
row_of (answer.Look a) = look_row a
row_of (answer.Glance a) = glance_row a

-- the call that a request asks for; one with an unknown operation asks for none, and is told so
abbrev pub call_of : RequestRow → Result Call AnswerRow
call_of r =
    if r.op == 0 then Ok (call.Like r.user r.page)
    else (if r.op == 1 then Ok (call.Look r.user r.page r.tag)
    else (if r.op == 2 then Ok (call.Glance r.user r.page)
    else Err (status_row (status unknown_op))))

abbrev pub found_row : Found → FoundRow
found_row found = record {
  tag = found.asked.tag;
  count = found.count;
  asked = found.asked.phase;
  ran = found.phase;
  user = found.asked.user;
  page = found.asked.page;
  last = page_or_none found.last;
  reserved = 0;
}

-- an answer is told by its row, or by the status that came in its place
abbrev pub HasRow : {A : Type 0} → (A → AnswerRow) → AnswerRow → Result A ℕ → Type 0
HasRow row_for row (Ok answer) = row ≡ row_for answer
HasRow row_for row (Err why) = row ≡ status_row why
