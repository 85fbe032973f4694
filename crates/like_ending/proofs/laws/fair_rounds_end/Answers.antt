use Rattle.like_ending.proofs.Ends.{fair_rounds_end}
use Rattle.like_ending.proofs.laws.fair_rounds_end.Goals as goal

pub returns : goal.returns
returns c = fair_rounds_end
