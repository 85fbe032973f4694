use Rattle.like_core.proofs.views.SplitPages.{slots_are_exact}
use Rattle.like_core.proofs.laws.slots_are_exact.Goals as goal

pub returns : goal.returns
returns c = slots_are_exact
