-- The coordinator: its turns, and how it chooses hot pages.
pub mod Choice
pub mod CoordTurns
