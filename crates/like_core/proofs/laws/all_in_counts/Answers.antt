use Rattle.like_core.proofs.word.Counts.{all_in_counts}
use Rattle.like_core.proofs.laws.all_in_counts.Goals as goal

pub returns : goal.returns
returns c = all_in_counts
