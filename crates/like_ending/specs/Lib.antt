-- A model of how far a crew is, its turns and schedules, what they lower, and the laws that they end.
pub mod Progress
pub mod FreshTurns
pub mod FreshCoordTurns
pub mod InPhase
pub mod Schedules
pub mod Measures
pub mod Laws
pub mod Example
