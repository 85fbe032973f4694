use Rattle.like_roles.proofs.Moments.{workers_are_exclusive}
use Rattle.like_roles.proofs.laws.workers_are_exclusive.Goals as goal

pub returns : goal.returns
returns c = workers_are_exclusive
