-- The program as a whole: what it does for its words, and its status and line.
pub mod Fault
pub mod Named
pub mod Program
