-- The limits of the service, as numbers, and the buckets of a seat's table.
pub mod Buckets
pub mod Limits
