use Rattle.like_live.proofs.Moments.{last_counts_are_tallies}
use Rattle.like_live.proofs.laws.last_counts_are_tallies.Goals as goal

pub returns : goal.returns
returns c = last_counts_are_tallies
