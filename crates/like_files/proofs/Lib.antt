-- Opening and reading the files of a run or a replay, why one ends without its report, and examples.
pub mod Ended
pub mod Examples
pub mod FailedReads
pub mod Named
pub mod Planned
pub mod StandardInput
pub mod Writable
