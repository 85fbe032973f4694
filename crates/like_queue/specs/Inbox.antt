-- What an inbox hands over.
use Rattle.std.specs.Prelude.{◌≡◌, ◌↔◌, ◌+◌, ◌≤◌, ℕ, List, length, slice_get, Some}
use Rattle.like_requests.specs.Types.{Ask, End, Nothing, Request, Taken}

-- an inbox as its worker knows it: a submitter's plan, and how many of its items were taken
pub record InboxView : Type 0 where
  pub plan : List Request
  pub taken : ℕ

-- the items of a plan are its requests and the end mark
abbrev pub item_count : List Request → ℕ
item_count plan = length plan + 1

-- what an inbox hands over, and what that leaves: the next request, with its number; the end mark behind the last one,
-- and from then on; or nothing, before the end mark was taken
abbrev pub HandsOver : InboxView → Taken → InboxView → Type 0
HandsOver v (Ask ask) w =
    (slice_get v.plan v.taken ≡ Some ask.request) × (ask.number ≡ v.taken + 1) × (w ≡ record v { taken = v.taken + 1 })
HandsOver v End w = (length v.plan ≤ v.taken) × (w ≡ record v { taken = item_count v.plan })
HandsOver v Nothing w = (v.taken ≤ length v.plan) × (w ≡ v)

-- a list inbox: a submitter's plan, how many of its items are open to the worker, and how many were taken
pub record Inbox : Type 0 where
  pub plan : List Request
  pub opened : ℕ
  pub taken : ℕ

-- the inbox that it is to its worker
abbrev pub view_of : Inbox → InboxView
view_of v = record { plan = v.plan; taken = v.taken }

-- nothing open is left of a list inbox, and its end mark was not taken
abbrev pub NoneLeft : Inbox → Type 0
NoneLeft v = (v.opened ≤ v.taken) × (v.taken ≤ length v.plan)

-- a take from a list inbox hands over what the inbox has, opens nothing, takes only what is open, and answers nothing just
-- where none is left
pub record TakesFromList (v : Inbox) (answer : Taken) (w : Inbox) : Type 0 where
  pub handed : HandsOver (view_of v) answer (view_of w)
  pub opened : w.opened ≡ v.opened
  pub only_open : w.taken ≤ v.opened
  pub nothing : (answer ≡ Nothing) ↔ NoneLeft v
