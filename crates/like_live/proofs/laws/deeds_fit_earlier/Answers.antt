use Rattle.like_live.proofs.Earlier.{deeds_fit_earlier}
use Rattle.like_live.proofs.laws.deeds_fit_earlier.Goals as goal

pub returns : goal.returns
returns c = deeds_fit_earlier
