use Rattle.std.proofs.Common.{sym}
use Rattle.like_core.proofs.views.Apart.{word_of-first, word_of-dense}
use Rattle.like_board.proofs.layout.word_of.Goals as goal

pub returns-then-page-lt-APART : goal.returns-then-page-lt-APART
returns-then-page-lt-APART c = sym (word_of-first c.args.page c.if-page-lt-APART.true)

pub returns-else-page-lt-APART : goal.returns-else-page-lt-APART
returns-else-page-lt-APART c = sym (word_of-dense c.args.page c.if-page-lt-APART.false)
