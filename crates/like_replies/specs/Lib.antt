-- The text of a report: rows, sections, sums, refused requests, places and notices.
pub mod Notices
pub mod Output
pub mod PlaceRows
pub mod Refusals
pub mod Reported
pub mod RowParts
pub mod Rows
pub mod Sections
pub mod Summary
