-- The text of rows: numbers, names, fixed words.
pub mod Plain
pub mod Heads
pub mod Named
pub mod RowTexts
pub mod Texts
