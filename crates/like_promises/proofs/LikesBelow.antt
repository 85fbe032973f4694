-- The likes of a page in earlier phases.
use Rattle.std.specs.Prelude.{ℕ, List, filter, nat_lt}
use Rattle.std.specs.List.{sum_by}
use Rattle.like_promises.specs.declared.log.Ran.{Ran}
use Rattle.like_promises.specs.Likes.{likes_among}
use Rattle.like_promises.specs.Workload.{Workload}

-- how many likes of the page ran in earlier phases, in all run lists
abbrev pub likes_below : Workload → ℕ → List (List Ran) → ℕ → ℕ
likes_below workload page runs phase =
    sum_by (λ ran. likes_among workload page (filter (λ e. nat_lt e.phase phase) ran)) runs
