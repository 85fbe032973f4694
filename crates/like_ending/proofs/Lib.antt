-- Why rounds and fair schedules end: what each turn lowers and keeps.
pub mod States
pub mod WorkerFacts
pub mod Sums
pub mod CrewFacts
pub mod Falls
pub mod Rests
pub mod Served
pub mod Lower
pub mod Ends
pub mod Stretches
pub mod Turning
