use Rattle.std.proofs.Common.{◌≡◌, ℕ, ◌+◌, ◌<◌, None, get_or, slice_index}
use Rattle.like_tables.specs.LastLike.{page_or_none}
use Rattle.like_tables.proofs.users.Users.write_lasts.Given as goal

abbrev pub invariant-loop-rank : goal.invariant-loop-rank
invariant-loop-rank l =
    (i : ℕ) → i < l.rank → slice_index l.row i ≡ page_or_none (get_or l.self-inside.pages.items (l.from + i) None)
