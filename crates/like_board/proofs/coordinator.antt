-- Each step of the coordinator keeps what the board shows.
pub mod Fitting
pub mod Leads
pub mod CoordSteps
pub mod Choosing
