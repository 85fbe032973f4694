use Rattle.like_live.proofs.StrictMoments.{moments_fit_earlier}
use Rattle.like_live.proofs.laws.moments_fit_earlier.Goals as goal

pub returns : goal.returns
returns c = moments_fit_earlier
