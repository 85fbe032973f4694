-- The phase word, the core as a state machine, and what a worker's and the coordinator's views tell.
pub mod Types
pub mod Additions
pub mod PageSteps
pub mod Log
pub mod word
pub mod Phase
pub mod OpeningLimits
pub mod Functions
pub mod Slots
pub mod WorkerState
pub mod PhaseMasks
pub mod core
pub mod views
pub mod Post
