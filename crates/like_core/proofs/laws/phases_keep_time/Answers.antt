use Rattle.like_core.proofs.views.Clock.{phases_keep_time}
use Rattle.like_core.proofs.laws.phases_keep_time.Goals as goal

pub returns : goal.returns
returns c = phases_keep_time
