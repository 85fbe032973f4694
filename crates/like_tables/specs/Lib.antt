-- A worker's tables: its share of the users, their last likes, its slice, its split pages and its stash.
pub mod Factors
pub mod Home
pub mod Homes
pub mod LastLike
pub mod Liked
pub mod PageSet
pub mod Ranked
pub mod Ranks
pub mod Ring
pub mod Share
pub mod Slice
pub mod SplitPages
pub mod SplitSlice
pub mod StashView
pub mod Tags
pub mod UserTable
