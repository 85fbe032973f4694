use Rattle.like_core.proofs.views.Clock.{numbers_rise}
use Rattle.like_core.proofs.laws.numbers_rise.Goals as goal

pub returns : goal.returns
returns c = numbers_rise
