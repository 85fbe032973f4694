use Rattle.like_core.proofs.word.Serving.{counts_serve}
use Rattle.like_core.proofs.laws.counts_serve.Goals as goal

pub returns : goal.returns
returns c = counts_serve
