-- The places of a report's additions to the counts of pages.
pub mod Adds
pub mod Calls
pub mod Places
pub mod Tiling
