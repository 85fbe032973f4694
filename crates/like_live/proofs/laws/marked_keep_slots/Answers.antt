use Rattle.like_live.proofs.Slotted.{marked_keep_slots}
use Rattle.like_live.proofs.laws.marked_keep_slots.Goals as goal

pub returns : goal.returns
returns c = marked_keep_slots
