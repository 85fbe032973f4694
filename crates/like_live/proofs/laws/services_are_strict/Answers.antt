use Rattle.like_live.proofs.LastCounts.{services_are_strict}
use Rattle.like_live.proofs.laws.services_are_strict.Goals as goal

pub returns : goal.returns
returns c = services_are_strict
