use Rattle.like_core.proofs.views.Ordered.{order_gives_past}
use Rattle.like_core.proofs.laws.order_gives_past.Goals as goal

pub returns : goal.returns
returns c = order_gives_past
