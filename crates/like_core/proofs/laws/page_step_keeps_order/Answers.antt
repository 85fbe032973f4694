use Rattle.like_core.proofs.views.KeptOrder.{page_step_keeps_order}
use Rattle.like_core.proofs.laws.page_step_keeps_order.Goals as goal

pub returns : goal.returns
returns c = page_step_keeps_order
