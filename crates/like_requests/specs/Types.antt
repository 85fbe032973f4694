-- The types of the code, and their variants, that several files of specs/ name.
use Rattle.like_requests.specs.declared
pub use declared.request.PageRef.TheVariants.{Known, Unknown}
pub use declared.request.Taken.TheVariants.{Ask, End, Nothing}
pub use declared.request.{Numbered.Numbered, Op.Op, PageRef.PageRef, Request.Request, Taken.Taken}
pub use declared.script.Turned.TheVariants.{Coordinator, OpenOne, Worker}
pub use declared.setup.SettingsFault.{SettingsFault, TheVariants.Script}
pub use declared.verdict.Verdict.TheVariants.{Accepted, OtherHome, UnknownPage, UnknownUser}
pub use declared.{pages_file.PagesFault.PagesFault, verdict.Verdict.Verdict}
pub use declared.{request.Op.TheVariants.Like, request.Op.TheVariants.Look, requests_file.RequestsFault.RequestsFault}
pub use declared.{script.Turned.Turned, script_file.ScriptFault.ScriptFault, setup.Setup.Setup}
