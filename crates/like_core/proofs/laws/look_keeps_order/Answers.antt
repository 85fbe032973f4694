use Rattle.like_core.proofs.views.KeptOrder.{look_keeps_order}
use Rattle.like_core.proofs.laws.look_keeps_order.Goals as goal

pub returns : goal.returns
returns c = look_keeps_order
