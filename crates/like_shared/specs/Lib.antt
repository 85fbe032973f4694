-- A service that threads share: its desk, its clients and their passes, its end, and all calls as one thread's.
pub mod Batches
pub mod Closed
pub mod Deeds
pub mod Desk
pub mod Hubs
pub mod Passes
pub mod Rows
pub mod Shared
pub mod Staying
pub mod Strict
