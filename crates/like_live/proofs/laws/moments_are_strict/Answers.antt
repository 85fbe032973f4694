use Rattle.like_live.proofs.StrictMoments.{moments_are_strict}
use Rattle.like_live.proofs.laws.moments_are_strict.Goals as goal

pub returns : goal.returns
returns c = moments_are_strict
