-- What each call at a board does: it takes a seat's view to the next, and is one move, or some likes and their merge.
-- Looks, returns and steps at pages come last in the log.
use Rattle.std.specs.Prelude.{ℕ, []}
use Rattle.like_core.specs.Types.{Add, Coord, CoordLook, CoordSeatView, CoordSight, Did, Glance as GlanceCall, Look}
use Rattle.like_core.specs.Types.{Read as ReadCall, Release, Saw, Seen, Sight, Worker, WorkerSeatView}
use Rattle.like_core.specs.declared.event.Event.TheVariants.{Acknowledge, Announce, CoordRead, Hot, Read, Report}
use Rattle.like_core.specs.declared.event.Event.TheVariants.{Retire}
use Rattle.like_core.specs.declared.shown.Shown.TheVariants.{Coord as CoordShown, Count, Done, Hot as HotShown, Old}
use Rattle.like_core.specs.views.Views.{adding, likes_merged, mask_released}
use Rattle.like_core.specs.{PageSteps.page_step, WorkerState.phase_of, WorkerState.running_sight, core.Moves.comes_back}
use Rattle.like_core.specs.{core.Moves.glances, core.Moves.makes, views.Shows.IsEntry, views.Shows.IsStep}

-- the worker looks at the phase word, and sees this
abbrev pub Looks : WorkerSeatView → Sight → WorkerSeatView → Type 0
Looks v sight w =
    IsEntry v.opening [] (makes (Look v.worker)) (Seen sight) (Saw v.worker sight.number) (Worker v) (Worker w)

-- the worker acknowledges the end of a joined phase
abbrev pub Acknowledges : WorkerSeatView → WorkerSeatView → Type 0
Acknowledges v w = IsStep v.opening (Acknowledge v.worker) Done (Worker v) (Worker w)

-- the worker reports the end of a split phase
abbrev pub Reports : WorkerSeatView → WorkerSeatView → Type 0
Reports v w = IsStep v.opening (Report v.worker) Done (Worker v) (Worker w)

-- the worker retires
abbrev pub Retires : WorkerSeatView → WorkerSeatView → Type 0
Retires v w = IsStep v.opening (Retire v.worker) Done (Worker v) (Worker w)

-- the worker comes back, and sees the phase that it then runs
abbrev pub ComesBack : WorkerSeatView → WorkerSeatView → Type 0
ComesBack v w =
    IsEntry v.opening [] (comes_back v.worker) (Seen (running_sight (phase_of w.state)))
    (Saw v.worker (phase_of w.state)) (Worker v) (Worker w)

-- the worker adds n to a page's count, which was this before
abbrev pub Adds : WorkerSeatView → ℕ → ℕ → ℕ → WorkerSeatView → Type 0
Adds v page n count w =
    IsEntry v.opening (likes_merged v page n) (makes (adding v page)) (Old count)
    (Did (page_step v.worker (phase_of v.state) page count (Add n))) (Worker v) (Worker w)

-- the worker reads a page's count, which is this
abbrev pub Reads : WorkerSeatView → ℕ → ℕ → WorkerSeatView → Type 0
Reads v page count w =
    IsEntry v.opening [] (makes (Read v.worker page)) (Count count)
    (Did (page_step v.worker (phase_of v.state) page count ReadCall)) (Worker v) (Worker w)

-- the worker glances at the count of a page that is split, which is this
abbrev pub Glances : WorkerSeatView → ℕ → ℕ → WorkerSeatView → Type 0
Glances v page count w =
    IsEntry v.opening [] (glances v.worker page) (Count count)
    (Did (page_step v.worker (phase_of v.state) page count GlanceCall)) (Worker v) (Worker w)

-- the worker reads the mask of its phase's hot pages, which is this
abbrev pub ReadsMask : WorkerSeatView → ℕ → WorkerSeatView → Type 0
ReadsMask v mask w = IsStep v.opening (Hot v.worker) (HotShown mask) (Worker v) (Worker w)

-- the coordinator looks at the phase word, and sees this
abbrev pub Surveys : CoordSeatView → CoordSight → CoordSeatView → Type 0
Surveys c sight d = IsStep c.opening CoordLook (CoordShown sight) (Coord c) (Coord d)

-- the coordinator reads a page's count, which is this
abbrev pub Counts : CoordSeatView → ℕ → ℕ → CoordSeatView → Type 0
Counts c page count d = IsStep c.opening (CoordRead page) (Count count) (Coord c) (Coord d)

-- the coordinator announces the end of the phase
abbrev pub Announces : CoordSeatView → CoordSeatView → Type 0
Announces c d = IsStep c.opening Announce Done (Coord c) (Coord d)

-- the coordinator releases the next phase, a split one with the mask that it published last
abbrev pub Releases : CoordSeatView → CoordSeatView → Type 0
Releases c d = IsStep c.opening (Release (mask_released c)) Done (Coord c) (Coord d)
