use Rattle.like_core.proofs.word.Counts.{answers_one}
use Rattle.like_core.proofs.laws.answers_one.Goals as goal

pub returns : goal.returns
returns c = answers_one
