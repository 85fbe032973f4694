-- The laws of run lists and of reports by a store, one order of steps at pages, and an example that has none.
pub mod StepsTold
pub mod RunLists
pub mod OneSees
pub mod Laws
pub mod Example
