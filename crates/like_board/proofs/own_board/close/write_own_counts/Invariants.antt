use Rattle.std.proofs.Common.{◌≡◌, ℕ, ◌<◌, slice_index}
use Rattle.own_table.specs.Table.{words_of}
use Rattle.like_core.specs.views.Layout.{word_of}
use Rattle.like_board.proofs.own_board.close.write_own_counts.Given as goal

abbrev pub invariant-loop-page : goal.invariant-loop-page
invariant-loop-page l =
    (k : ℕ) → k < l.page → slice_index l.counts k ≡ slice_index (words_of l.board.table) (word_of k)
