use Rattle.like_live.proofs.Taking.{found_are_taken}
use Rattle.like_live.proofs.laws.found_are_taken.Goals as goal

pub returns : goal.returns
returns c = found_are_taken
