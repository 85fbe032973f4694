-- Runs and replays of files: what the files give, the outcome, and the status and line of each fault.
pub mod Types
pub mod FailedReads
pub mod Faults
pub mod Inputs
pub mod Lines
pub mod Opened
pub mod Outcome
pub mod Plans
pub mod Replay
pub mod Run
pub mod Source
pub mod StandardInput
pub mod Tries
