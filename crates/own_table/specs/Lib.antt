-- A table that one thread owns: what it shows, and how it is between its steps.
pub mod Standing
pub mod Table
