-- Why each step of a pass and of the keeper keeps a lock's rule, and what the order of all deeds weighs.
pub mod Ends
pub mod Holding
pub mod Keepers
pub mod Keeping
pub mod Logs
pub mod Views
pub mod Weights
