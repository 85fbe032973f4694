-- Which users a worker owns, and by which rank. What slices, stashes and sets of pages have, kept as they are.
pub mod Apart
pub mod AtHome
pub mod ByPage
pub mod Dealt
pub mod Homes
pub mod Inverses
pub mod NextLiked
pub mod Owned
pub mod PageSets
pub mod Ranking
pub mod Ranks
pub mod Rows
pub mod Sliced
pub mod Tagged
pub mod Turned
pub mod Walk
