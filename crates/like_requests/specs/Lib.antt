-- The input of a run: its pages, requests, script and limits, and which requests are accepted.
pub mod Types
pub mod Entries
pub mod Pages
pub mod PagesFile
pub mod RequestsFile
pub mod Script
pub mod ScriptFile
pub mod Setup
pub mod Verdict
