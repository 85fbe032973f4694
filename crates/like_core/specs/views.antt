-- What seats know of a board, what its words and all views show, and what calls change of it.
pub mod Sights
pub mod Views
pub mod Posts
pub mod Reads
pub mod Tallies
pub mod Places
pub mod Order
pub mod Layout
pub mod Shows
pub mod PostOrder
pub mod Clock
pub mod SplitPages
pub mod Serves
pub mod Actions
