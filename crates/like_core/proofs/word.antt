-- The phase word: its fields, its steps, its masks and its two forms.
pub mod WordParts
pub mod Masks
pub mod HowMany
pub mod States
pub mod Bits
pub mod Counts
pub mod Serving
pub mod KindTells
