use Rattle.like_live.proofs.Gone.{last_counts_stay}
use Rattle.like_live.proofs.laws.last_counts_stay.Goals as goal

pub returns : goal.returns
returns c = last_counts_stay
