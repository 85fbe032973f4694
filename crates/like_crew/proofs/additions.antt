-- The additions that a run leaves.
pub mod Earlier
pub mod AddedPages
pub mod AddedPhases
pub mod Tiled
