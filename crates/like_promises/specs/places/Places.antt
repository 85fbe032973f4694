-- The places of the additions to each page.
use Rattle.std.specs.Prelude.{◌≡◌, ℕ, ◌<◌, ◌==◌, List, [], Vec, filter, length, map, slice_index_or, flat_map}
use Rattle.std.specs.{List.Sorted.IsNonDecreasingBy, List.enumerate_from, declared.alloc.Global.Global}
use Rattle.like_promises.specs.Types.{Added, Place, WorkerLog}

-- the places of a worker's additions to a page, in order
abbrev pub places_of : ℕ → ℕ → List Added → List Place
places_of page worker adds =
    map (λ a. record { worker = worker; phase = a.phase; old = a.old; n = a.n }) (filter (λ a. a.page == page) adds)

-- the places of all additions to a page, by worker and in the order of each
abbrev pub places_in : ℕ → List WorkerLog → List Place
places_in page logs = flat_map (λ p. places_of page p.0 p.1.adds.items) (enumerate_from 0 logs)

-- the places by page, as lists
abbrev pub lists_in : List (Vec Place Global) → List (List Place)
lists_in rows = map (λ row. row.items) rows

-- the places that were made, by rising counts before; those with the same count keep their order
pub record AreByOld (made placed : List Place) : Type 0 where
  pub rising : IsNonDecreasingBy (λ p. p.old) placed
  pub same : (old : ℕ) → filter (λ p. p.old == old) placed ≡ filter (λ p. p.old == old) made

-- for each of this many pages the places of all additions to it
pub record ArePlaces (pages : ℕ) (logs : List WorkerLog) (rows : List (List Place)) : Type 0 where
  pub sized : length rows ≡ pages
  pub each : (page : ℕ) → page < pages → AreByOld (places_in page logs) (slice_index_or rows page [])
