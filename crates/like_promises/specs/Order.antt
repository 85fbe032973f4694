-- In which order a worker runs what it has taken, and what has to wait.
use Rattle.std.specs.Prelude.{ℕ, ◌+◌, ◌==◌, Bool, true, false, ◌&&◌, not, max, List, [], ◌∷◌, ◌++◌, map, filter, flat_map}
use Rattle.std.specs.{List.range_with_len, Option.option_map_or}
use Rattle.like_promises.specs.Workload.{Workload, is_split_in}
use Rattle.like_promises.specs.{Asked.asked, Store.Ask, Store.look, Types.Ran, Types.Took}

-- whether what is asked has to wait, where these pages are split: a look at one of them
abbrev pub must_wait : (ℕ → Bool) → Ask → Bool
must_wait is_split (look user page) = is_split page
must_wait is_split _ = false

-- whether what was taken had to wait, in the phase in which it was taken
abbrev pub waited : Workload → Took → Bool
waited workload t =
    option_map_or (must_wait (is_split_in workload t.phase)) (asked workload t.submitter t.number) false

-- a place in the run order: which request runs in which phase, and whether it comes out of the stash
pub record Entry : Type 0 where
  pub phase : ℕ
  pub submitter : ℕ
  pub number : ℕ
  pub stashed : Bool

-- the entry that a run list shows
abbrev pub entry_of : Ran → Entry
entry_of e = record { phase = e.phase; submitter = e.submitter; number = e.number; stashed = e.stashed }

-- what was taken, as it runs in a phase
abbrev pub entry_in : ℕ → Bool → Took → Entry
entry_in phase stashed t = record { phase = phase; submitter = t.submitter; number = t.number; stashed = stashed }

-- taken in the phase before this one, to wait
abbrev pub is_due : Workload → ℕ → Took → Bool
is_due workload phase t = (t.phase + 1 == phase) && waited workload t

-- the block of a phase: first what was taken in the phase before and had to wait, then what need not wait in this one
abbrev pub block : Workload → List Took → ℕ → List Entry
block workload taken phase =
    map (entry_in phase true) (filter (is_due workload phase) taken)
    ++ map (entry_in phase false) (filter (λ t. (t.phase == phase) && not (waited workload t)) taken)

-- the number after the greatest phase of taking, and 0 where nothing was taken
abbrev pub phases_of : List Took → ℕ
phases_of [] = 0
phases_of (t ∷ taken) = max (t.phase + 1) (phases_of taken)

-- run order: the blocks of all phases in which anything can run, 0, 1, 2, .., joined end to end
abbrev pub order : Workload → List Took → List Entry
order workload taken = flat_map (block workload taken) (range_with_len 0 (phases_of taken + 1))
