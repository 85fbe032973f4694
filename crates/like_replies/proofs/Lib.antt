-- How the text of a report grows, row by row and section by section, also in parallel.
pub mod InParallel
pub mod Begun
pub mod Examples
pub mod rows
pub mod Lists
pub mod Sections
pub mod Summed
