use Rattle.like_live.proofs.DeedEntries.{deeds_have_entries}
use Rattle.like_live.proofs.laws.deeds_have_entries.Goals as goal

pub returns : goal.returns
returns c = deeds_have_entries
