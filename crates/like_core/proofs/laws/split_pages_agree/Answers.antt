use Rattle.like_core.proofs.views.SplitPages.{split_pages_agree}
use Rattle.like_core.proofs.laws.split_pages_agree.Goals as goal

pub returns : goal.returns
returns c = split_pages_agree
