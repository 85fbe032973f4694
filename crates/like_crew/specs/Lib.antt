-- A crew: the coordinator, and the workers with their inboxes. Its steps, its end and its outcome.
pub mod Crew
pub mod Ended
pub mod Fresh
pub mod Outcome
pub mod OwnCrew
pub mod OwnServer
pub mod Progress
pub mod Server
pub mod ServerTurns
pub mod Servers
pub mod Serving
pub mod Site
pub mod Steps
