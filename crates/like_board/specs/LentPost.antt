-- A post at a board that is lent to it.
use Rattle.std.specs.Prelude.{ℕ, List, ◌∷◌}
use Rattle.like_core.specs.Types.{WorkerSeatView}
use Rattle.like_board.specs.Own.{own_place, own_view, own_views}
use Rattle.like_board.specs.{Lent.lent_board, declared.own_board.lent_post.LentPost.LentPost}

-- what its seat knows
abbrev pub lent_view : LentPost → WorkerSeatView
lent_view post = own_view post.seat.now

-- the numbers of its board tell which board and seat are lent to it, what all other seats know, and what its own knew
-- when it was lent
abbrev pub lent_numbers : LentPost → List ℕ
lent_numbers post =
    post.board.ghost_name ∷ post.seat.ghost_name
    ∷ lent_board (own_views post.board.now) (own_place post.seat.now) post.before.me.0
