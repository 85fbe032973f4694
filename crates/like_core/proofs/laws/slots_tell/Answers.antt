use Rattle.like_core.proofs.Slots.{slots_tell}
use Rattle.like_core.proofs.laws.slots_tell.Goals as goal

pub returns : goal.returns
returns c = slots_tell
