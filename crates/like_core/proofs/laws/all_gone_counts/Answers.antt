use Rattle.like_core.proofs.word.Counts.{all_gone_counts}
use Rattle.like_core.proofs.laws.all_gone_counts.Goals as goal

pub returns : goal.returns
returns c = all_gone_counts
