use Rattle.like_shared.proofs.Same.{same-stays}
use Rattle.like_shared.proofs.laws.same_stays.Goals as goal

pub returns : goal.returns
returns c = same-stays
