use Rattle.like_live.proofs.ClosedOrder.{seats_rise}
use Rattle.like_live.proofs.laws.seats_rise.Goals as goal

pub returns : goal.returns
returns c = seats_rise
