-- How much may still be added to a page's count.
use Rattle.std.specs.Prelude.{ℕ, ◌+◌, ◌-◌, ◌*◌, ◌≤◌, List, length, sum_by}
use Rattle.like_core.specs.Types.{Coord, Limits, Spent, View, Worker, WorkerSeatView}
use Rattle.like_core.specs.{Additions.added_to, PageSteps.additions_among, core.State.CoreState}

-- how much a worker may still add to a page, if it may add this many likes to it
abbrev pub left_to : ℕ → ℕ → WorkerSeatView → ℕ
left_to likes page v = likes - added_to page (additions_among v.did)

-- how much the worker of a view may still add to a page: the coordinator's has what workers without a seat yet may add,
-- and those whose seat was given back
abbrev pub room : Limits → ℕ → View → ℕ
room l page (Coord c) = l.likes * (l.seats - c.made) + sum_by (λ v. left_to l.likes page v) c.joined
room l page (Worker v) = left_to l.likes page v
room l page Spent = 0

-- with what may still be added, the likes applied to a page are at most what all seats may add
abbrev pub Tallied : Limits → CoreState → List View → Type 0
Tallied l s views = (page : ℕ) → length (s.applied page) + sum_by (room l page) views ≤ l.likes * l.seats
