-- The places of requests, and the answers at them.
pub mod There
pub mod Empty
pub mod Putting
pub mod SlotPlaces
pub mod Holding
pub mod Collecting
