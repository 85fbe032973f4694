-- Runs on threads, and replays that follow a script.
pub mod Rounds
pub mod Script
pub mod Threads
