use Rattle.std.proofs.Common.{ap, length, arith, ◌∙◌}
use Rattle.atomic_table.specs.Seated.{TableId}
use Rattle.like_core.proofs.views.Apart.{word_of-order}
use Rattle.like_board.proofs.Allowed.{closing}
use Rattle.like_board.proofs.closed_board.write_counts.Goals as goal

pub load-requires : goal.load-requires
load-requires c =
    let here = c.loop-page.invariant.board ∙ c.requires.here in
    let words = ap (λ (t : TableId). t.words) c.requires.here in
    let sized = c.requires.sized in
    let word = c.word_of-word.ensures in
    let there = word_of-order c.loop-page.page (length c.args.counts.now) (omega arith) in
    (here, omega arith, closing c.args.board.now.table.shared.key _ _ _ _)
