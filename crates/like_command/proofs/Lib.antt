-- What `clap` reads of the command line, and what it finds in words.
pub mod Commands
pub mod Grown
pub mod Matched
pub mod Walked
