-- What a seat of a board knows: a worker's view, or the coordinator's.
use Rattle.std.specs.Prelude.{[]}
use Rattle.like_limits.specs.Buckets.{run_factor}
use Rattle.like_core.specs.Types.{Coord, CoordSeatView, Opening, Spent, View, Worker, WorkerSeatView}
use Rattle.like_core.specs.{OpeningLimits.run_limits, Post.fresh, views.Views.fresh_coord}

-- the opening of a view that is of no board
abbrev pub nowhere : Opening
nowhere = record { workers = 0; counts = []; marks = []; limits = run_limits; factor = run_factor }

-- the worker's view that a view is
abbrev pub worker_view_of : View → WorkerSeatView
worker_view_of (Coord c) = fresh nowhere 0
worker_view_of (Worker v) = v
worker_view_of Spent = fresh nowhere 0

-- the coordinator's view that a view is
abbrev pub coord_view_of : View → CoordSeatView
coord_view_of (Coord c) = c
coord_view_of (Worker v) = fresh_coord nowhere 0
coord_view_of Spent = fresh_coord nowhere 0
