-- The functions of handles, for each type that they hold, and what rows tell of the answers written in them.
pub mod Asking
pub mod Handle
pub mod Homes
pub mod Owners
mod Told
pub mod Unwritten
