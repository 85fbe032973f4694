-- Collecting the answers of all logs: one for each request, or the fault of a log.
pub mod CollectFaults
pub mod Entries
pub mod Parts
pub mod Slots
