use Rattle.like_seat.proofs.Moments.{posts_are_exclusive}
use Rattle.like_seat.proofs.laws.posts_are_exclusive.Goals as goal

pub returns : goal.returns
returns c = posts_are_exclusive
