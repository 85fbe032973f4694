use Rattle.like_core.proofs.views.Clock.{later_orders_continue}
use Rattle.like_core.proofs.laws.later_orders_continue.Goals as goal

pub returns : goal.returns
returns c = later_orders_continue
