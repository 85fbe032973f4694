-- What a worker called at pages, by its run list and its additions.
use Rattle.std.specs.Prelude.{ℕ, ◌+◌, ◌==◌, List, ◌++◌, filter, length, map, slice_get, Option, Some, None, option_and_then, flat_map, option_to_list}
use Rattle.std.specs.List.{range_with_len}
use Rattle.like_core.specs.Types.{Addition}
use Rattle.like_promises.specs.Types.{Added, Ran, Reply, Seen}
use Rattle.like_promises.specs.{Asked.asked, Store.Ask, Store.look, Workload.Workload, places.Adds.addition_of}

-- the stretch of a look, by its answer: it is empty, at the count shown
abbrev pub stretch_shown : ℕ → Ask → Reply → Option Addition
stretch_shown phase (look user page) (Seen last count) =
    Some (record { phase = phase; page = page; old = count; likes = 0 })
stretch_shown phase given answer = None

-- the stretch of the look that an entry ran, if any
abbrev pub stretch_seen : Workload → Ran → Option Addition
stretch_seen workload e = option_and_then (λ a. stretch_shown e.phase a e.reply) (asked workload e.submitter e.number)

-- a worker's calls, with their stretches: for each number of entries its additions after these, and the next one's look
abbrev pub calls_of : Workload → List Added → List Ran → List Addition
calls_of workload adds ran =
    flat_map (λ at. map addition_of (filter (λ a. a.at == at) adds)
    ++ option_to_list (option_and_then (stretch_seen workload) (slice_get ran at))) (range_with_len 0 (length ran + 1))
