use Rattle.like_live.proofs.Slotted.{split_pages_are_slots}
use Rattle.like_live.proofs.laws.split_pages_are_slots.Goals as goal

pub returns : goal.returns
returns c = split_pages_are_slots
