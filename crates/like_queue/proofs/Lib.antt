-- Why each step on a line's queue keeps its rule, and which items a plan has.
pub mod Items
pub mod Steps
