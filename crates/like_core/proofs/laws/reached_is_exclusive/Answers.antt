use Rattle.like_core.proofs.core.Moved.{reached_is_exclusive}
use Rattle.like_core.proofs.laws.reached_is_exclusive.Goals as goal

pub returns : goal.returns
returns c = reached_is_exclusive
