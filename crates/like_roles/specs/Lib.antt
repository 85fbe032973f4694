-- The two roles of a run, the worker and the coordinator, and their turns.
pub mod worker
pub mod coordinator
