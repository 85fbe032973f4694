use Rattle.like_live.proofs.Histories.{none_waits_once_gone}
use Rattle.like_live.proofs.laws.none_waits_once_gone.Goals as goal

pub returns : goal.returns
returns c = none_waits_once_gone
