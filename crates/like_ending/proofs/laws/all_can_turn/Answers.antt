use Rattle.like_ending.proofs.Turning.{all_can_turn}
use Rattle.like_ending.proofs.laws.all_can_turn.Goals as goal

pub returns : goal.returns
returns c = all_can_turn
