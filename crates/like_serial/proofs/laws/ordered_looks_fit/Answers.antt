use Rattle.like_serial.proofs.Ordered.{ordered_looks_fit}
use Rattle.like_serial.proofs.laws.ordered_looks_fit.Goals as goal

pub returns : goal.returns
returns c = ordered_looks_fit
