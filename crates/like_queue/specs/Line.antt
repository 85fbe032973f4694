-- What the two ends of a line know, and what their calls answer.
use Rattle.std.specs.Prelude.{◌≡◌, ◌+◌, ◌<◌, ◌≤◌, ℕ, List, length, slice_get, Option, Some, Result, Ok, Err}
use Rattle.atomic_table.specs.Seated.{TableId}
use Rattle.like_requests.specs.Types.{Request}
use Rattle.like_queue.specs.Inbox.{InboxView}
use Rattle.like_queue.specs.declared.refused.EndRefused.{EndRefused, EndRefused as at_end}
use Rattle.like_queue.specs.declared.refused.PushRefused.{PushRefused, PushRefused as at_push}

-- how many items a line holds at most
abbrev pub line_capacity : ℕ
line_capacity = 64

-- a line: which queue it is, and its submitter's plan
pub record LineId : Type 0 where
  pub queue : TableId
  pub plan : List Request

-- the pass or end of a line that sends, and how many of the plan's items it has sent
pub record Sender : Type 0 where
  pub line : LineId
  pub sent : ℕ

-- the pass or end of a line that takes, and how many of the plan's items it has taken
pub record Taker : Type 0 where
  pub line : LineId
  pub taken : ℕ

-- the inbox that the end of a line is to its worker
abbrev pub inbox_of : Taker → InboxView
inbox_of v = record { plan = v.line.plan; taken = v.taken }

-- the next request to be sent
abbrev pub next_of : Sender → Option Request
next_of v = slice_get v.line.plan v.sent

-- the end mark was sent
abbrev pub HasSentEnd : Sender → Type 0
HasSentEnd v = length v.line.plan < v.sent

-- one item more was sent
abbrev pub one_sent : Sender → Sender
one_sent v = record v { sent = v.sent + 1 }

-- one item more was taken
abbrev pub one_taken : Taker → Taker
one_taken v = record v { taken = v.taken + 1 }

-- what a push answers, and what it leaves: the number of the request, or the request again, where the line was full or
-- the end mark was sent
abbrev pub Pushes : Sender → Request → Result ℕ PushRefused → Sender → Type 0
Pushes v request (Ok number) w = (next_of v ≡ Some request) × (number ≡ v.sent + 1) × (w ≡ one_sent v)
Pushes v request (Err (at_push.Full back)) w =
    (next_of v ≡ Some request) × (line_capacity ≤ v.sent) × (back ≡ request) × (w ≡ v)
Pushes v request (Err (at_push.Ended back)) w = HasSentEnd v × (back ≡ request) × (w ≡ v)

-- what a push of the end mark answers, and what it leaves
abbrev pub SendsEnd : Sender → Result (Unit {0}) EndRefused → Sender → Type 0
SendsEnd v (Ok done) w = (v.sent ≡ length v.line.plan) × (w ≡ one_sent v)
SendsEnd v (Err at_end.Full) w = (v.sent ≡ length v.line.plan) × (line_capacity ≤ v.sent) × (w ≡ v)
SendsEnd v (Err at_end.Ended) w = HasSentEnd v × (w ≡ v)
