-- What clients' calls and the desk keep, and why all that all clients did is what one thread could have done.
pub mod Backs
pub mod Batches
pub mod Clients
pub mod Closing
pub mod Desks
pub mod Kept
pub mod LikeRows
pub mod OwnClients
pub mod Places
pub mod Rows
pub mod Runs
pub mod Same
pub mod Strict
pub mod Written
