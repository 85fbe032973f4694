-- What each input file says once its rows are read, how a page is found by its name, and verdicts on requests.
pub mod Added
pub mod FirstAway
pub mod Found
pub mod Fronts
pub mod Names
pub mod PagesRead
pub mod Planned
pub mod RequestsRead
pub mod ScriptRead
pub mod Verdicts
