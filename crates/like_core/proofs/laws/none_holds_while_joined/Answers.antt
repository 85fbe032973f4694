use Rattle.like_core.specs.core.Likes.{given}
use Rattle.like_core.proofs.core.CoreReached.{reachable_is_exclusive}
use Rattle.like_core.proofs.core.GivenLikes.{likes_stay_reachable}
use Rattle.like_core.proofs.laws.none_holds_while_joined.Goals as goal

pub returns : goal.returns
returns c = λ z s more reached may i phase runs joined.
    ((reachable_is_exclusive z (given s more) (likes_stay_reachable z s more reached may)).0 i phase runs joined).0
