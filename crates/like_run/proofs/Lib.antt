-- How a script's entries and rounds are made, how a run's threads start, and what is reported.
pub mod Entries
pub mod Lines
pub mod Long
pub mod Reported
pub mod Scripts
pub mod Started
