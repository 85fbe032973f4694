-- The lines from submitters to workers: their rule, their two ends, and the inboxes at the workers.
pub mod Inbox
pub mod Line
pub mod Lines
pub mod Rule
