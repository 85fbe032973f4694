use Rattle.std.proofs.Common.{ℕ, ◌<◌, subst}
use Rattle.like_board.specs.Known.{coord_view_of}
use Rattle.like_board.proofs.Allowed.{making}
use Rattle.like_board.proofs.new_seats.make_seat.Goals as goal

pub split_seat-access-requires : goal.split_seat-access-requires
split_seat-access-requires c =
    let known = coord_view_of c.args.coord.now.me.0 in (
      c.requires.here,
      c.args.board.now.some_word,
      making c.args.board.now.table.shared.key _ _ (λ m. (c.requires.coord m).0)
          (subst (λ (n : ℕ). n < known.opening.workers) c.requires.next c.requires.room),
    )
