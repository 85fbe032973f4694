use Rattle.like_ending.proofs.Stretches.{fair_schedules_end}
use Rattle.like_ending.proofs.laws.fair_schedules_end.Goals as goal

pub returns : goal.returns
returns c = fair_schedules_end
