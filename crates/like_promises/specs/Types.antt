-- The types of the code, and their variants, that several files of specs/ name.
use Rattle.like_promises.specs.declared
pub use declared.reply.Reply.TheVariants.{Liked, Refused, Seen}
pub use declared.run_fault.RunFault.TheVariants.{Memory, Settings, Start}
pub use declared.{answer.Answer.Answer, log.Added.Added, place.Place.Place, reply.Reply.Reply}
pub use declared.{chosen.Chosen.Chosen, log.Ran.Ran, log.Took.Took, log.WorkerLog.WorkerLog, report.Report.Report}
pub use declared.{replies.Replies.Replies, run_fault.RunFault.RunFault}
