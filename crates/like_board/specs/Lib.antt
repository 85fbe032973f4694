-- Boards: their words, marks and rule, their seats and posts, and a board that one thread owns.
pub mod Known
pub mod Marks
pub mod Rule
pub mod Plays
pub mod Seats
pub mod Closed
pub mod NewViews
pub mod Own
pub mod Lent
pub mod Lending
pub mod LentPost
pub mod OwnClosed
pub mod Led
