use Rattle.like_core.proofs.views.KeptOrder.{join_keeps_order}
use Rattle.like_core.proofs.laws.join_keeps_order.Goals as goal

pub returns : goal.returns
returns c = join_keeps_order
