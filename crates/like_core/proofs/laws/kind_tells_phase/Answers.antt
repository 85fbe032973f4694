use Rattle.like_core.proofs.word.KindTells.{kind_tells_phase}
use Rattle.like_core.proofs.laws.kind_tells_phase.Goals as goal

pub returns : goal.returns
returns c = kind_tells_phase
