-- The functions of handles, for every type that they hold.
pub mod Client
pub mod Driver
pub mod Get
pub mod Kind
pub mod Phase
pub mod Put
pub mod Seat
pub mod Sends
pub mod Shared
pub mod Take
