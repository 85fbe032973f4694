use Rattle.like_shared.proofs.Written.{counts-stay}
use Rattle.like_shared.proofs.laws.counts_stay.Goals as goal

pub returns : goal.returns
returns c = counts-stay
