use Rattle.like_serial.proofs.Growth.{growth_is_likes}
use Rattle.like_serial.proofs.laws.growth_is_likes.Goals as goal

pub returns : goal.returns
returns c = growth_is_likes
