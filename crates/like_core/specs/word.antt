-- The phase word, as fields, as a number, and as it shows a state.
pub mod Kind
pub mod Word
pub mod PhaseWord
pub mod Forms
pub mod ShownWord
pub mod KindTells
