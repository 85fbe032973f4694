use Rattle.like_core.proofs.views.KeptOrder.{other_step_keeps_order}
use Rattle.like_core.proofs.laws.other_step_keeps_order.Goals as goal

pub returns : goal.returns
returns c = other_step_keeps_order
