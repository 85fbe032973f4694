-- The coordinator: its turns, its choices and its releases.
pub mod Totals
pub mod Choosing
pub mod Releasing
pub mod Coordinating
