-- Each step of a worker keeps what the board shows.
pub mod Moves
pub mod Pages
pub mod Additions
pub mod Readings
pub mod WorkerSteps
