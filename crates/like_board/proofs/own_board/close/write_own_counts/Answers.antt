use Rattle.std.proofs.Common.{length, arith}
use Rattle.like_core.proofs.views.Apart.{word_of-order}
use Rattle.like_board.proofs.own_board.close.write_own_counts.Goals as goal

pub word-requires : goal.word-requires
word-requires c =
    let sized = c.requires.sized in
    let word = c.word_of-word.ensures in
    let there = word_of-order c.loop-page.page (length c.args.counts.now) (omega arith) in
    omega (arith, sized, word, there)
