use Rattle.like_core.proofs.views.Ordered.{moments_are_ordered}
use Rattle.like_core.proofs.laws.moments_are_ordered.Goals as goal

pub returns : goal.returns
returns c = moments_are_ordered
