-- What the steps of a crew do.
use Rattle.std.specs.Prelude.{◌≡◌, ◌↔◌, ℕ, Bool, true, List, [], ◌∷◌, length, map, slice_get, slice_set, Some}
use Rattle.std.specs.List.{range_with_len}
use Rattle.like_requests.specs.Types.{Coordinator, OpenOne, Turned, Worker}
use Rattle.like_board.specs.Lent.{HasFound}
use Rattle.like_tables.specs.Share.{worker_of}
use Rattle.like_roles.specs.declared.{coord_turn.CoordTurn.CoordTurn, turn.Turn.Turn}
use Rattle.like_roles.specs.{coordinator.CoordTurns.CoordTurns, declared.coord_turn.CoordTurn.TheVariants.Ended}
use Rattle.like_crew.specs.{Crew.AreGone, Crew.CrewView, Fresh.LooksFresh, Fresh.ShowsWorkers, Fresh.views_with}
use Rattle.like_crew.specs.{Server.ServerView, ServerTurns.IsTurn, ServerTurns.OpensOne, ServerTurns.TakesOpen}

-- a step of the server of one worker, and of no other
pub record AtServer (worker : ℕ) (Step : ServerView → ServerView → Type 0) (ss ts : List ServerView)
    : Type 0 where
  pub before : ServerView
  pub after : ServerView
  pub here : slice_get ss worker ≡ Some before
  pub step : Step before after
  pub rest : ts ≡ slice_set ss worker after

-- a whole turn of a server of a crew with this answer: its look shows what the coordinator's seat knows, its steps at
-- pages find what all seats have added by then, and it takes only what is open
pub record IsFreshTurn (c : CrewView) (answer : Turn) (s t : ServerView) : Type 0 where
  pub turn : IsTurn answer s t
  pub fresh : LooksFresh c.coordinator.seat.phase c.coordinator.seat.ending s t
  pub found : HasFound (views_with c.coordinator.seat c.servers) s.worker.post t.worker.post
  pub only_open : TakesOpen s t

-- some such turn
abbrev pub MakesFreshTurn : CrewView → ServerView → ServerView → Type 0
MakesFreshTurn c s t = (answer : Turn) × IsFreshTurn c answer s t

-- one item more of a submitter's list is open, at the server of its worker
abbrev pub OpensMore : ℕ → List ServerView → List ServerView → Type 0
OpensMore submitter ss ts = AtServer (worker_of (length ss) submitter) (OpensOne submitter) ss ts

-- a turn of the coordinator with this answer, whose look shows what the workers know, and nothing else
pub record LeadsFresh (answer : CoordTurn) (c d : CrewView) : Type 0 where
  pub turn : CoordTurns c.coordinator answer d.coordinator
  pub fresh : ShowsWorkers c.coordinator.seat.phase c.servers turn.sight
  pub rest : d.servers ≡ c.servers

-- an entry of a script is made: one item more of a submitter's list is open to its worker, or a worker makes a whole turn,
-- or the coordinator makes one; and all else is the same. Each turn sees and finds what all turns before have left
abbrev pub Makes : Turned → CrewView → CrewView → Type 0
Makes (OpenOne submitter) c d =
    OpensMore submitter c.servers d.servers × (d.coordinator ≡ c.coordinator)
Makes (Worker worker) c d =
    AtServer worker (MakesFreshTurn c) c.servers d.servers × (d.coordinator ≡ c.coordinator)
Makes Coordinator c d = (answer : CoordTurn) × LeadsFresh answer c d

-- entries are made one after the other
abbrev pub MakesAll : List Turned → CrewView → CrewView → Type 0
MakesAll [] c d = d ≡ c
MakesAll (entry ∷ script) c d = (next : CrewView) × (Makes entry c next × MakesAll script next d)

-- each worker makes a turn, in order
abbrev pub MakesTurns : CrewView → CrewView → Type 0
MakesTurns c d = MakesAll (map Worker (range_with_len 0 (length c.servers))) c d

-- a round: a turn of the coordinator, and then one of each worker. The run ended with it if the coordinator answered that
-- it has, and all workers are gone
pub record FreshRound (ended : Bool) (c d : CrewView) : Type 0 where
  pub answer : CoordTurn
  pub led : CrewView
  pub leads : LeadsFresh answer c led
  pub workers : MakesTurns led d
  pub tells : (ended ≡ true) ↔ ((answer ≡ Ended) × AreGone d.servers)
