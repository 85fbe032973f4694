-- The core as a state machine over events: its numbers, the table of events, its states and what is kept of them.
pub mod Numbers
pub mod Table
pub mod Kept
pub mod State
pub mod Reachable
pub mod Moves
pub mod Exclusive
pub mod Likes
pub mod Core
