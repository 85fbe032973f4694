-- The command line: what words ask for, and the status and line of those that ask for nothing.
pub mod Asked
pub mod Built
pub mod CommandLine
pub mod Fault
