use Rattle.like_core.proofs.core.Staying.{all_in_stays}
use Rattle.like_core.proofs.laws.all_in_stays.Goals as goal

pub returns : goal.returns
returns c = all_in_stays
