-- How run order grows, what requests ask, the mask of hot pages, and worked examples.
pub mod Asked
pub mod Blocks
pub mod Examples
pub mod LikedPages
pub mod LikesBelow
pub mod Lists
pub mod RequestAt
