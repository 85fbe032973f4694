-- The marks of a board's pages, where there may be fewer than pages.
use Rattle.std.specs.Prelude.{ℕ, ◌-◌, Bool, false, List, ◌++◌, length, replicate}

-- a mark for each of this many pages: these marks, and none for the pages after them
abbrev pub marks_of : ℕ → List Bool → List Bool
marks_of pages marks = marks ++ replicate (pages - length marks) false
