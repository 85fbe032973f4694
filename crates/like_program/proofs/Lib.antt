-- What the program does for its words: a run or a replay of the files that options name.
pub mod NamedFiles
pub mod Serving
