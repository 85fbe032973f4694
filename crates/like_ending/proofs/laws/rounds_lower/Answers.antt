use Rattle.like_ending.proofs.Ends.{round_lowers}
use Rattle.like_ending.proofs.laws.rounds_lower.Goals as goal

pub returns : goal.returns
returns c = round_lowers
