use Rattle.like_core.proofs.views.Ordered.{order_gives_places}
use Rattle.like_core.proofs.laws.order_gives_places.Goals as goal

pub returns : goal.returns
returns c = order_gives_places
