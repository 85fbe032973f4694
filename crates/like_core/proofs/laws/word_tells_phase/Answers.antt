use Rattle.like_core.proofs.word.Serving.{word_tells_phase}
use Rattle.like_core.proofs.laws.word_tells_phase.Goals as goal

pub returns : goal.returns
returns c = word_tells_phase
