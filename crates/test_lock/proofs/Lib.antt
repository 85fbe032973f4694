-- The number under a lock is the first one and all that its passes added.
pub mod Adding
