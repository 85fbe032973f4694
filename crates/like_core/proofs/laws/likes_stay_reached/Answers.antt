use Rattle.like_core.proofs.core.GivenLikes.{likes_stay_reached}
use Rattle.like_core.proofs.laws.likes_stay_reached.Goals as goal

pub returns : goal.returns
returns c = likes_stay_reached
