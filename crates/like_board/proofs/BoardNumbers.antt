-- Boards with the same numbers are the same.
use Rattle.std.proofs.Common.{◌≡◌, ℕ, List, get_or, drop, sym, ap, ◌∙◌, refl}
use Rattle.atomic_table.specs.Seated.{TableId}
use Rattle.like_board.specs.Seats.{board_numbers}

-- the board with these numbers
board_of : List ℕ → TableId
board_of ns = record {
  words = get_or ns 0 0;
  slots = get_or ns 1 0;
  views_name = get_or ns 2 0;
  atom = get_or ns 3 0;
  block = get_or ns 4 0;
  offset = get_or ns 5 0;
  slot_names = drop 6 ns;
}

board_of-numbers : (id : TableId) → board_of (board_numbers id) ≡ id
unfolding board_of
board_of-numbers id = refl

-- they tell it from all others
pub same_board : (a b : TableId) → board_numbers a ≡ board_numbers b → a ≡ b
same_board a b e = sym (board_of-numbers a) ∙ ap board_of e ∙ board_of-numbers b
