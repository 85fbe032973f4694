-- The rule of a board, and the word and the views with which it begins.
use Rattle.std.specs.Prelude.{ℕ}
use Rattle.atomic_table.specs.Table.{State}
use Rattle.like_core.specs.Types.{Coord, CoordSeatView, Opening, View}
use Rattle.like_core.specs.{core.State.start, views.Shows.ShowsSome, views.Views.fresh_coord, word.ShownWord.shown_word}
use Rattle.like_board.specs.declared.key.Key.{Key}

-- the opening that a key tells
abbrev pub opening_of : Key → Opening
opening_of key = record {
  workers = key.workers;
  counts = key.pages.counts;
  marks = key.pages.marks;
  limits = key.limits;
  factor = key.factor;
}

-- the rule of a board: between any two atomic steps, its words and the views of all seats show some state of the core
-- that can be reached
abbrev pub IsShowing : {S : Type 0} → Key → State S View → Type 0
IsShowing key s = ShowsSome (opening_of key) s.words s.views

-- the phase word of a new board
abbrev pub first_word : Opening → ℕ
first_word z = shown_word z (start z)

-- the coordinator's view of a new board, once it made each worker's seat
abbrev pub opened_coord : Opening → CoordSeatView
opened_coord z = record (fresh_coord z (first_word z)) { made = z.workers }

-- the first seat's view: the coordinator's
abbrev pub first_view : Key → View
first_view key = Coord (fresh_coord (opening_of key) (first_word (opening_of key)))
