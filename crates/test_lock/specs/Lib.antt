-- A number under a lock, to which passes add.
pub mod Adding
