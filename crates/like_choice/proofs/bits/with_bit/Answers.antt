use Rattle.like_choice.proofs.Masks.{has_bit-set}
use Rattle.like_choice.proofs.bits.with_bit.Goals as goal

pub returns : goal.returns
returns c = has_bit-set c.args.bits c.args.slot c.requires
