-- The additions that a worker notes.
pub mod Calls
pub mod Noted
pub mod Noting
pub mod NotedMerge
