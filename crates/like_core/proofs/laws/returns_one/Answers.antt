use Rattle.like_core.proofs.word.Counts.{returns_one}
use Rattle.like_core.proofs.laws.returns_one.Goals as goal

pub returns : goal.returns
returns c = returns_one
