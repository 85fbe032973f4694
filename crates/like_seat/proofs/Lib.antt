-- What each step of a station keeps, how its slice is merged page by page, and what a lead chooses.
pub mod Choosing
pub mod Entering
pub mod Filling
pub mod Keeping
pub mod Leading
pub mod Looking
pub mod MergedLikes
pub mod Merging
pub mod Moments
pub mod WholeMerge
pub mod SliceLogs
