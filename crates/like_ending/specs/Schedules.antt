-- Turns one after another: rounds, and schedules.
use Rattle.std.specs.Prelude.{◌≡◌, ℕ, zero, suc, ◌<◌, Bool, true, List, [], ◌∷◌, length, map, slice_get, slice_set, Some, ⊤, Contains}
use Rattle.std.specs.List.{AllZip}
use Rattle.like_ending.specs.Progress.{AllAreGone, CrewProgress, WorkerProgress}
use Rattle.like_ending.specs.{FreshCoordTurns.FreshCoordTurns, FreshTurns.FreshTurns}

-- who has a turn: the coordinator, or the worker with this number
pub data Participant : Type 0 where
  coordinator : Participant
  worker : ℕ → Participant

-- it is the coordinator, or a worker of the crew
abbrev pub TakesPart : CrewProgress → Participant → Type 0
TakesPart c coordinator = ⊤
TakesPart c (worker i) = i < length c.workers

-- a turn of the worker with this number, and of no other
pub record HasTurnAt (all_open : Bool) (i : ℕ) (c d : CrewProgress) : Type 0 where
  pub before : WorkerProgress
  pub after : WorkerProgress
  pub here : slice_get c.workers i ≡ Some before
  pub turn : FreshTurns all_open c.phase c.ending before after
  pub rest : d ≡ record c { workers = slice_set c.workers i after }

-- a turn of a participant
abbrev pub HasTurn : Bool → Participant → CrewProgress → CrewProgress → Type 0
HasTurn all_open coordinator c d = FreshCoordTurns c d
HasTurn all_open (worker i) c d = HasTurnAt all_open i c d

-- a turn of each of these participants, in order
abbrev pub TakeTurns : Bool → List Participant → CrewProgress → CrewProgress → Type 0
TakeTurns all_open [] c d = d ≡ c
TakeTurns all_open (who ∷ rest) c d =
    (b : CrewProgress) × (HasTurn all_open who c b × TakeTurns all_open rest b d)

-- a round, with all lists open: a turn of the coordinator, and then one of each worker in order
pub record IsFreshRound (c d : CrewProgress) : Type 0 where
  pub led : CrewProgress
  pub coordinator : FreshCoordTurns c led
  pub workers : AllZip (FreshTurns true led.phase led.ending) led.workers d.workers
  pub rest : d ≡ record led { workers = d.workers }

-- a fair round, with all lists open: a turn of the coordinator, and then turns of the workers in any order and number,
-- with at least one of each
pub record IsFairRound (c d : CrewProgress) : Type 0 where
  pub order : List ℕ
  pub each : (i : ℕ) → i < length c.workers → Contains order i
  pub turns : TakeTurns true (coordinator ∷ map worker order) c d

-- a fair stretch, with all lists open: turns in any order and number, with at least one of each participant
pub record IsFairStretch (c d : CrewProgress) : Type 0 where
  pub order : List Participant
  pub each : (who : Participant) → TakesPart c who → Contains order who
  pub turns : TakeTurns true order c d

-- n such steps one after another, none of which begins where the run has ended
abbrev pub Unended : (CrewProgress → CrewProgress → Type 0) → ℕ → CrewProgress → CrewProgress → Type 0
Unended Step zero c d = d ≡ c
Unended Step (suc n) c d = ¬ AllAreGone c × ((b : CrewProgress) × (Step c b × Unended Step n b d))
