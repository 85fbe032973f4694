-- What a table that one thread owns shows.
use Rattle.std.specs.Prelude.{ℕ, List}
use Rattle.own_table.specs.declared.own_table.OwnTable.{OwnTable}

-- its words
abbrev pub words_of : {V K : Type 0} {g : _} → OwnTable V K g → List ℕ
words_of t = t.words.items

-- the views of all its seats
abbrev pub views_of : {V K : Type 0} {g : _} → OwnTable V K g → List V
views_of t = t.standing.views

-- what its rule was told
abbrev pub key_of : {V K : Type 0} {g : _} → OwnTable V K g → K
key_of t = t.standing.key
