-- The log of a board, the latest entry first. It is the board's clock: an entry's number is how many entries were made
-- before it, by all workers.
use Rattle.std.specs.Prelude.{ℕ, ◌≤◌, ◌==◌, if◌then◌else◌, List, [], ◌∷◌, ◌++◌, length, replicate}
use Rattle.like_core.specs.Types.{Did, LogEntry, Logged, PageStep, Saw}
use Rattle.like_core.specs.{PageSteps.adds_to, core.State.Label}

-- the worker that made an entry, and the phase in which it did
abbrev pub entry_worker : LogEntry → ℕ
entry_worker (Saw worker phase) = worker
entry_worker (Did s) = s.worker

abbrev pub entry_phase : LogEntry → ℕ
entry_phase (Saw worker phase) = phase
entry_phase (Did s) = s.phase

-- an entry with its number
abbrev pub numbered : ℕ → LogEntry → Logged
numbered number entry = record { number = number; entry = entry }

-- the entries of worker i with their numbers, the latest first
abbrev pub logged_by : ℕ → List LogEntry → List Logged
logged_by i [] = []
logged_by i (entry ∷ log) =
    if entry_worker entry == i then numbered (length log) entry ∷ logged_by i log else logged_by i log

-- the number of the latest of a worker's entries, if it has any
abbrev pub latest_number : List Logged → ℕ
latest_number [] = 0
latest_number (e ∷ logged) = e.number

-- the steps at pages
abbrev pub steps_in : List LogEntry → List PageStep
steps_in [] = []
steps_in (Saw worker phase ∷ log) = steps_in log
steps_in (Did s ∷ log) = s ∷ steps_in log

-- phases never fall along the log, and none is later than this one
abbrev pub PhasesRise : ℕ → List LogEntry → Type 0
PhasesRise phase [] = Unit {0}
PhasesRise phase (entry ∷ log) = (entry_phase entry ≤ phase) × PhasesRise (entry_phase entry) log

-- the likes that the log applies to a page, each with who ran it and in which phase: a state's lists, the latest last
abbrev pub applied_of : List LogEntry → ℕ → List Label
applied_of [] page = []
applied_of (Saw worker phase ∷ log) page = applied_of log page
applied_of (Did s ∷ log) page =
    applied_of log page ++ replicate (adds_to page s) (record { worker = s.worker; phase = s.phase })
