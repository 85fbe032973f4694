use Rattle.like_core.proofs.core.Moved.{nobody_returns}
use Rattle.like_core.proofs.laws.moments_are_reachable.Goals as goal

pub returns : goal.returns
returns c = λ z m nobody. (nobody_returns z m.shown.state).1 nobody m.shown.reachable
