use Rattle.like_live.proofs.Bounding.{answers_are_bounded}
use Rattle.like_live.proofs.laws.answers_are_bounded.Goals as goal

pub returns : goal.returns
returns c = answers_are_bounded
