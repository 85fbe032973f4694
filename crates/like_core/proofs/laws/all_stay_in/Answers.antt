use Rattle.like_core.proofs.core.Staying.{all_stay_in}
use Rattle.like_core.proofs.laws.all_stay_in.Goals as goal

pub returns : goal.returns
returns c = all_stay_in
