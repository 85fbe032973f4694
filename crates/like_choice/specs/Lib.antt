-- The slots for hot pages, how a choice fills them, and a seat's samples.
pub mod Slots
pub mod Steps
pub mod Samples
