-- The phase word, the core and the views: what each event keeps. Sums, lists, logs and slots that they speak of.
pub mod word
pub mod Sums
pub mod Lists
pub mod Logs
pub mod Rows
pub mod Updates
pub mod core
pub mod Times
pub mod Below
pub mod PhaseMasks
pub mod Slots
pub mod views
pub mod Steps
pub mod Totals
pub mod Between
pub mod Tiled
