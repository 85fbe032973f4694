-- What a report says of the places of the additions to each page.
use Rattle.std.specs.Prelude.{◌≡◌, ℕ, ◌+◌, ◌≤◌, ◌&&◌, nat_le, nat_lt, if◌then◌else◌, All, List, count_by, length, map, slice_index, flat_map}
use Rattle.like_core.specs.{Types.Addition, views.Places.ArePlaced, views.Places.covers, views.Places.end_of}
use Rattle.like_promises.specs.Types.{Ran, Report, WorkerLog}
use Rattle.like_promises.specs.places.{Adds.AddsItsLikes, Adds.addition_of, Calls.calls_of, Places.ArePlaces}
use Rattle.like_promises.specs.{Likes.initial_count, RunStore.count_at, Workload.Workload}

-- the additions of all logs
abbrev pub all_noted : List WorkerLog → List Addition
all_noted logs = flat_map (λ log. map addition_of log.adds.items) logs

-- places tile: additions are the likes; their stretches tile the counts; each worker's calls find counts in order, the
-- first or the end of a stretch; and each lies between the counts before its phase and before the next
pub record ArePlacesTiled (workload : Workload) (r : Report) (serial : List Ran) : Type 0 where
  pub likes : All (λ log. AddsItsLikes workload log.ran.items log.adds.items) r.logs.items
  pub tiles : (page n : ℕ) → count_by (covers page n) (all_noted r.logs.items)
      ≡ (if nat_le (initial_count workload.pages page) n && nat_lt n (slice_index r.counts.items page) then 1 else 0)
  pub placed : All (λ log. ArePlaced (initial_count workload.pages) (λ test. count_by test (all_noted r.logs.items))
      (calls_of workload log.adds.items log.ran.items)) r.logs.items
  pub in_time : All (λ log. All (λ c. (count_at workload serial c.page c.phase ≤ c.old)
      × (end_of c ≤ count_at workload serial c.page (c.phase + 1))) (calls_of workload log.adds.items log.ran.items))
      r.logs.items
  pub rows : ArePlaces (length workload.pages) r.logs.items (map (λ row. row.items) r.places.items)
