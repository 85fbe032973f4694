-- The types of the code, and their variants, that several files of specs/ name.
use Rattle.like_core.specs.declared
pub use declared.event.Event.TheVariants.{CoordLook, Look, Release}
pub use declared.log.LogEntry.TheVariants.{Did, Saw}
pub use declared.page_step.PageCall.TheVariants.{Add, Glance, Read}
pub use declared.view.View.TheVariants.{Coord, Spent, Worker}
pub use declared.worker_state.WorkerState.TheVariants.{Answered, Gone, Runs}
pub use declared.{event.Event.Event, limits.Limits.Limits, log.LogEntry.LogEntry, log.Logged.Logged}
pub use declared.{opening.Opening.Opening, page_step.PageCall.PageCall, page_step.PageStep.PageStep, shown.Shown.Shown}
pub use declared.{shown.Shown.TheVariants.Seen, sight.CoordSight.CoordSight, sight.Sight.Sight, view.Addition.Addition}
pub use declared.{view.CoordSeatView.CoordSeatView, view.PageCount.PageCount, view.View.View}
pub use declared.{view.WorkerSeatView.WorkerSeatView, worker_state.WorkerState.WorkerState}
