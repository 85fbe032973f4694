use Rattle.like_live.proofs.Moments.{seats_are_exclusive}
use Rattle.like_live.proofs.laws.seats_are_exclusive.Goals as goal

pub returns : goal.returns
returns c = seats_are_exclusive
