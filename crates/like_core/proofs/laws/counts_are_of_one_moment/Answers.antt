use Rattle.like_core.proofs.views.Ends.{counted_now}
use Rattle.like_core.proofs.laws.counts_are_of_one_moment.Goals as goal

pub returns : goal.returns
returns c = counted_now
