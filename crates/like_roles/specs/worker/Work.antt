-- A worker's work, at a post.
use Rattle.std.specs.Prelude.{[]}
use Rattle.like_core.specs.Types.{WorkerSeatView}
use Rattle.like_tables.specs.declared.held.Held.{Held}
use Rattle.like_seat.specs.{Kept.IsKept, StationView.StationView}
use Rattle.like_seat.specs.Kept as kept
use Rattle.like_roles.specs.worker.Ledger.{IsSettled, IsSound, view_of}
use Rattle.like_roles.specs.{declared.worker.tasks.Work.Work, worker.WorkerView.WorkerView}

-- its station at a post whose seat knows this; which board that is at is told apart
abbrev pub station_at : WorkerSeatView → Work → StationView Held
station_at post w = kept.view_of [] post w.tables

-- the worker at such a post
abbrev pub worker_at : WorkerSeatView → Work → WorkerView
worker_at post w = view_of (station_at post w) w.ledger

-- the work is that of such a post, and holds what is true of a worker between two calls
pub record IsReady (post : WorkerSeatView) (w : Work) : Type 0 where
  pub kept : IsKept post w.tables
  pub sound : IsSound (station_at post w) w.ledger

-- the work is ready, and no submitter is tried
pub record IsIdle (post : WorkerSeatView) (w : Work) : Type 0 where
  pub kept : IsKept post w.tables
  pub settled : IsSettled (station_at post w) w.ledger
