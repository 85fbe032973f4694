use Rattle.like_ending.proofs.Ends.{rounds_end}
use Rattle.like_ending.proofs.laws.rounds_end.Goals as goal

pub returns : goal.returns
returns c = rounds_end
