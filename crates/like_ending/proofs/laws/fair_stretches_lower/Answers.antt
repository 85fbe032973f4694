use Rattle.like_ending.proofs.Stretches.{fair_stretches_lower}
use Rattle.like_ending.proofs.laws.fair_stretches_lower.Goals as goal

pub returns : goal.returns
returns c = fair_stretches_lower
