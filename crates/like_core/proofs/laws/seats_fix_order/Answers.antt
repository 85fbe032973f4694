use Rattle.like_core.proofs.views.Clock.{seats_fix_order}
use Rattle.like_core.proofs.laws.seats_fix_order.Goals as goal

pub returns : goal.returns
returns c = seats_fix_order
