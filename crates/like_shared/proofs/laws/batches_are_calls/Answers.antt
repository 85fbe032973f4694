use Rattle.like_shared.proofs.Batches.{batches-are-calls}
use Rattle.like_shared.proofs.laws.batches_are_calls.Goals as goal

pub returns : goal.returns
returns g c = batches-are-calls g.R.Row.asks g.R.Row.tells
