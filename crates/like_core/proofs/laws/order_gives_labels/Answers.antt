use Rattle.like_core.proofs.views.Labelled.{order_gives_labels}
use Rattle.like_core.proofs.laws.order_gives_labels.Goals as goal

pub returns : goal.returns
returns c = order_gives_labels
