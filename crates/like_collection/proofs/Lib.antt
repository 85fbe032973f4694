-- How the answers and the places of all workers' logs are put together.
pub mod slots
pub mod Examples
pub mod Lists
pub mod Entries
pub mod Parts
pub mod PlaceLists
