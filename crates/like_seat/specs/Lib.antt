-- A worker's station with its slice, the merge of that, and the lead of a board's phases.
pub mod Kept
pub mod Lead
pub mod LikeCount
pub mod Merge
pub mod Moments
pub mod StationView
pub mod SlicedLike
pub mod Steps
