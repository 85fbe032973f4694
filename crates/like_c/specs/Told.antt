-- The answers in rows, and the deeds of requests with them.
use Rattle.std.specs.Prelude.{ℕ, ◌==◌, List, [], ◌∷◌, filter, flat_map, map, Result, Ok, Err}
use Rattle.like_requests.specs.Types.{Accepted, OtherHome, UnknownPage, UnknownUser, Verdict}
use Rattle.like_tables.specs.LastLike.{page_in}
use Rattle.like_seat.specs.declared.seen.Seen.{Seen}
use Rattle.like_live.specs.Types.{Answer, Answer as answer, Call, Call as call, GlanceAnswer as glance}
use Rattle.like_live.specs.Types.{LikeAnswer as like, LookAnswer as look}
use Rattle.like_shared.specs.{Rows.deeds_of_call, Rows.row_deeds, declared.deed.SeatDeed.SeatDeed}
use Rattle.like_c.specs.Rows.{call_of, row_of}
use Rattle.like_c.specs.declared.rows.{AnswerRow.AnswerRow, RequestRow.RequestRow}

-- what a row shows
abbrev pub seen_in : AnswerRow → Seen
seen_in row = record { last = page_in row.last; count = row.count }

abbrev pub verdicts : List Verdict
verdicts = Accepted ∷ UnknownUser ∷ OtherHome ∷ UnknownPage ∷ []

-- all answers to a call, where this is shown
abbrev pub answers_to : Call → Seen → List Answer
answers_to (call.Like user page) shown =
    map answer.Like (like.Liked ∷ like.Between ∷ like.Full ∷ like.Gone ∷ map like.Refused verdicts)
answers_to (call.Look user page tag) shown =
    map answer.Look (look.Seen shown ∷ look.Waits ∷ look.Between ∷ look.NoRoom ∷ look.Gone ∷ map look.Refused verdicts)
answers_to (call.Glance user page) shown = map answer.Glance
    (glance.Seen shown ∷ glance.Glimpsed shown ∷ glance.Between ∷ glance.Gone ∷ map glance.Refused verdicts)

-- the one that has the row's status
abbrev pub answer_in : Call → AnswerRow → List Answer
answer_in c row = filter (λ a. (row_of a).status == row.status) (answers_to c (seen_in row))

-- the deed of a request's call with its answer; one that asks for no call is none
abbrev pub deeds_told : Result Call AnswerRow → AnswerRow → List SeatDeed
deeds_told (Ok c) row = flat_map (deeds_of_call c) (answer_in c row)
deeds_told (Err none) row = []

abbrev pub deeds_of_request : RequestRow → AnswerRow → List SeatDeed
deeds_of_request request row = deeds_told (call_of request) row

-- the deeds of requests, so many of which were done
abbrev pub deeds_of_requests : List RequestRow → List AnswerRow → ℕ → List SeatDeed
deeds_of_requests = row_deeds deeds_of_request
