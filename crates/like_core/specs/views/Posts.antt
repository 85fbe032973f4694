-- The posts of all workers whose seats some views tell, and how much these have added.
use Rattle.std.specs.Prelude.{ℕ, ◌+◌, List, [], ◌∷◌, flat_map, sum_by}
use Rattle.like_core.specs.Types.{Coord, Spent, View, Worker, WorkerSeatView}
use Rattle.like_core.specs.{Additions.added_before, Additions.added_to, PageSteps.additions_among}

-- the workers' seats that a view tells: its own, or those that were given back to the coordinator's
abbrev pub workers_of : View → List WorkerSeatView
workers_of (Coord c) = c.joined
workers_of (Worker v) = v ∷ []
workers_of Spent = []

-- all those of some views
abbrev pub posts_of : List View → List WorkerSeatView
posts_of = flat_map workers_of

-- how much posts have added to a page, and how much in the phases before one
abbrev pub posts_added : List WorkerSeatView → ℕ → ℕ
posts_added posts page = sum_by (λ v. added_to page (additions_among v.did)) posts

abbrev pub posts_before : List WorkerSeatView → ℕ → ℕ → ℕ
posts_before posts phase page = sum_by (λ v. added_before phase page (additions_among v.did)) posts

-- a page's last count: its first count, and all that posts have added to it
abbrev pub last_count : (ℕ → ℕ) → List WorkerSeatView → ℕ → ℕ
last_count first posts page = first page + posts_added posts page
