-- The types of the code, and their variants, that several files of specs/ name.
use Rattle.like_files.specs.declared
pub use declared.fault.DriverFault.TheVariants.{Memory, Pages, Requests, Script, Settings, Start, Unfinished, Write}
pub use declared.{fault.DriverFault.DriverFault, opened.Opened.Opened}
