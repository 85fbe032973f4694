-- A worker: what contracts see of it, its turns, what it keeps, and how it follows the plans.
pub mod WorkerView
pub mod Serve
pub mod Merges
pub mod Turns
pub mod Ranks
pub mod New
pub mod Judged
pub mod Ledger
pub mod Follows
pub mod Posted
pub mod Work
pub mod Moments
