use Rattle.like_core.proofs.core.CoreReached.{reachable_is_exclusive}
use Rattle.like_core.proofs.laws.reachable_is_exclusive.Goals as goal

pub returns : goal.returns
returns c = reachable_is_exclusive
