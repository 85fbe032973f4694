-- The laws: rounds end, and so do fair schedules.
use Rattle.std.specs.Prelude.{ℕ, ◌+◌, ◌*◌, ◌≤◌, Bool, false, true, List, length}
use Rattle.like_core.specs.Phase.{last_phase}
use Rattle.like_ending.specs.Progress.{AllAreGone, CrewProgress, IsStart, items_in, remaining_in}
use Rattle.like_ending.specs.Schedules.{HasTurn, IsFairRound, IsFairStretch, IsFreshRound, Participant, TakeTurns}
use Rattle.like_ending.specs.Schedules.{TakesPart, Unended}
use Rattle.like_ending.specs.{InPhase.IsCrewInPhase, Measures.changes_in, Measures.distance, Measures.measure}

-- a start is in phase; and each turn keeps a crew so, whether all lists are open or not, and doesn't raise what is left
pub record StaysInPhase : Type 0 where
  pub starts : (c : CrewProgress) → IsStart c → IsCrewInPhase c
  pub stays : (all_open : Bool) (who : Participant) (c d : CrewProgress) → IsCrewInPhase c → HasTurn all_open who c d
      → IsCrewInPhase d × (remaining_in d ≤ remaining_in c)

-- a round that doesn't find all workers gone lowers the measure by more than the turns of a phase
abbrev pub RoundsLower : Type 0
RoundsLower =
    (c d : CrewProgress) → IsCrewInPhase c → ¬ AllAreGone c → IsFreshRound c d → measure d + (c.turns + 1) ≤ measure c

-- n rounds are within the bound for so many turns in a phase, items and workers
abbrev pub MayLast : ℕ → ℕ → ℕ → ℕ → Type 0
MayLast turns items workers n =
    (turns + 1) * n ≤ (2 * turns + 4) * (items + workers) + (turns + 1) * (turns + 3)

-- from a start, after any turns, n rounds one after another, none of which begins with all workers gone, are within the
-- bound
abbrev pub RoundsEnd : Type 0
RoundsEnd =
    (before : List Participant) (n : ℕ) (start c d : CrewProgress)
    → IsStart start → TakeTurns false before start c → Unended IsFreshRound n c d
    → MayLast start.turns (items_in start) (length start.workers) n

-- from a start, after any turns, n fair rounds one after another, none of which begins with all workers gone, are
-- within the bound; and so are n + 1, if not all workers are gone after them
abbrev pub FairRoundsEnd : Type 0
FairRoundsEnd =
    (before : List Participant) (n : ℕ) (start c d : CrewProgress)
    → IsStart start → TakeTurns false before start c → Unended IsFairRound n c d
    → MayLast start.turns (items_in start) (length start.workers) n
    × (¬ AllAreGone d → MayLast start.turns (items_in start) (length start.workers) (n + 1))

-- each fair stretch that doesn't begin with all workers gone lowers the distance
abbrev pub FairStretchesLower : Type 0
FairStretchesLower =
    (c d : CrewProgress) → IsCrewInPhase c → ¬ AllAreGone c → IsFairStretch c d → distance d + 1 ≤ distance c

-- from a start, after any turns, n fair stretches one after another, none of which begins with all workers gone, are no
-- more than the turns that change anything in all phases up to the last, and two for each item
abbrev pub FairSchedulesEnd : Type 0
FairSchedulesEnd =
    (before : List Participant) (n : ℕ) (start c d : CrewProgress)
    → IsStart start → TakeTurns false before start c → Unended IsFairStretch n c d
    → n ≤ (last_phase + 1) * changes_in start + 2 * items_in start

-- everybody can have a turn, with all lists open
abbrev pub AllCanTurn : Type 0
AllCanTurn =
    (who : Participant) (c : CrewProgress)
    → IsCrewInPhase c → TakesPart c who → (d : CrewProgress) × HasTurn true who c d
