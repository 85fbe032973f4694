use Rattle.like_core.proofs.word.Counts.{retires_one}
use Rattle.like_core.proofs.laws.retires_one.Goals as goal

pub returns : goal.returns
returns c = retires_one
