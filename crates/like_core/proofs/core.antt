-- The core: what its events change, and what is so in every state that can be reached.
pub mod Labels
pub mod KeptWrites
pub mod CoreWrites
pub mod NumbersAfter
pub mod EventLists
pub mod Started
pub mod Reached
pub mod InPhase
pub mod Moved
pub mod Staying
pub mod GivenLikes
pub mod CoreReached
pub mod Adding
