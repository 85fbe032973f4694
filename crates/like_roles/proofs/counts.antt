-- What running requests does to likes and to what was done at pages.
pub mod Tallied
pub mod Steps
