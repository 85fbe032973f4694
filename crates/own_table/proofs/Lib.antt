-- Lists of a table's words, what its steps lead to, and how it is made.
pub mod Lists
pub mod Steps
pub mod Made
