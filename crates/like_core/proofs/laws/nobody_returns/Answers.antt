use Rattle.like_core.proofs.core.Moved.{nobody_returns}
use Rattle.like_core.proofs.laws.nobody_returns.Goals as goal

pub returns : goal.returns
returns c = nobody_returns
