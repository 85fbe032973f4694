use Rattle.like_core.proofs.views.Apart.{words_stand_apart}
use Rattle.like_core.proofs.laws.words_stand_apart.Goals as goal

pub returns : goal.returns
returns c = words_stand_apart
