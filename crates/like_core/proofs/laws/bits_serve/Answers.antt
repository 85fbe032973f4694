use Rattle.like_core.proofs.word.Serving.{bits_serve}
use Rattle.like_core.proofs.laws.bits_serve.Goals as goal

pub returns : goal.returns
returns c = bits_serve
