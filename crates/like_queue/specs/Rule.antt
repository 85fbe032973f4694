-- The rule of a line, which each step on its queue keeps.
use Rattle.std.specs.Prelude.{◌≡◌, ◌⊎◌, ◌+◌, ◌≤◌, ℕ, List, [], ◌∷◌, ◌++◌, length, Option, Some, None}
use Rattle.like_requests.specs.Types.{Numbered, Request}
use Rattle.like_queue.specs.declared.known.Role.TheVariants.{Sends, Takes, Unsplit}
use Rattle.like_queue.specs.{Inbox.item_count, declared.known.Known.Known, declared.known.Role.Role}

-- an item of a plan: a request with its number, or the end mark
abbrev pub Item : Type 0
Item = Option Numbered

-- requests, numbered on from n, and the end mark
abbrev pub items_from : ℕ → List Request → List Item
items_from n [] = None ∷ []
items_from n (request ∷ plan) = Some (record { number = n; request = request }) ∷ items_from (n + 1) plan

-- the items of a plan: its requests, numbered from 1, and the end mark
abbrev pub items_of : List Request → List Item
items_of plan = items_from 1 plan

-- what a pass knows
abbrev pub known : Role → List Request → ℕ → Known
known role plan count = record { role = role; plan = plan; count = count }

-- a pass knows its role, the plan, and how many of the plan's items went through it
abbrev pub Knows : Known → Role → List Request → ℕ → Type 0
Knows v role plan count = (v ≡ known role plan count) × (count ≤ item_count plan)

-- the pass of a new queue
abbrev pub unsplit : Known
unsplit = known Unsplit [] 0

-- one item more went through a pass
abbrev pub one_more : Known → Known
one_more v = record v { count = v.count + 1 }

-- the rule of a line with its two passes: what was taken, then what the queue holds, then what is yet to be sent are the
-- items of the plan; one pass has sent as many as were taken or are in the queue, and the other has taken those taken
pub record HasTwoEnds (items : List Item) (views : List Known) : Type 0 where
  pub plan : List Request
  pub taken : List Item
  pub left : List Item
  pub order : taken ++ (items ++ left) ≡ items_of plan
  pub passes : views ≡ known Sends plan (length taken + length items) ∷ known Takes plan (length taken) ∷ []

-- the rule of a line: its one pass is not split yet, and nothing is in the queue; or the items are in order
abbrev pub IsLine : List Item → List Known → Type 0
IsLine items views = ((items ≡ []) × (views ≡ unsplit ∷ [])) ⊎ HasTwoEnds items views
