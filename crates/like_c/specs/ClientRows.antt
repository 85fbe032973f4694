-- Rows of requests that a client makes.
use Rattle.std.specs.Prelude.{◌≡◌, ℕ, List, [], ◌∷◌, Result, Ok, Err, Option}
use Rattle.like_shared.specs.Rows.{AreAnswered}
use Rattle.like_c.specs.{Asks.At, Clients.Calls, Held.with_first, Rows.call_of, Rows.row_of, Status.empty}
use Rattle.like_c.specs.{Status.status, Told.deeds_of_requests, declared.boxed_client.BoxedClient.BoxedClient}
use Rattle.like_c.specs.{declared.rows.AnswerRow.AnswerRow, declared.rows.RequestRow.RequestRow}

-- the first request, if there is one, is told this status
abbrev pub with_refused : ℕ → List RequestRow → List AnswerRow → List AnswerRow
with_refused why [] rows = rows
with_refused why (request ∷ requests) rows = with_first why rows

-- what is written of requests: so many were done, and each is told its answer; or none was, and the first is told why
abbrev pub TellsRequests : List RequestRow → List AnswerRow → List AnswerRow → ℕ → Result ℕ ℕ → Type 0
TellsRequests requests old rows done (Ok many) = (done ≡ many) × AreAnswered call_of row_of requests old rows done
TellsRequests requests old rows done (Err refused) = (done ≡ 0) × (rows ≡ with_refused refused requests old)

-- a client's requests are made at a seat: its log has their calls, if it isn't refused, and this is written
abbrev pub RunsRequests :
    ℕ → BoxedClient → List RequestRow → List AnswerRow → List AnswerRow → ℕ → BoxedClient → Type 0
RunsRequests seat b requests old rows done c =
    (told : Result ℕ ℕ) × Calls seat (deeds_of_requests requests rows) told b c
    × TellsRequests requests old rows done told

abbrev pub ClientRuns :
    ℕ → Option BoxedClient → List RequestRow → List AnswerRow → List AnswerRow → ℕ → Option BoxedClient → Type 0
ClientRuns seat at requests old rows done after =
    At ((done ≡ 0) × (rows ≡ with_first (status empty) old))
    (λ b c. RunsRequests seat b requests old rows done c) at after
