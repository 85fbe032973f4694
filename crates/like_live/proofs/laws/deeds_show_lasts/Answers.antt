use Rattle.like_live.proofs.DeedLasts.{deeds_show_lasts}
use Rattle.like_live.proofs.laws.deeds_show_lasts.Goals as goal

pub returns : goal.returns
returns c = deeds_show_lasts
