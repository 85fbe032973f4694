-- What crosses to C: handles, rows and statuses, and what likes.h tells of each call.
pub mod Asks
pub mod ClientRows
pub mod Clients
pub mod Closes
pub mod Handle
pub mod Held
pub mod Layout
pub mod Opened
pub mod Rows
pub mod Sharing
pub mod Status
pub mod Told
