use Rattle.like_live.proofs.Histories.{histories_are_counted}
use Rattle.like_live.proofs.laws.histories_are_counted.Goals as goal

pub returns : goal.returns
returns c = histories_are_counted
