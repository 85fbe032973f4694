use Rattle.like_serial.proofs.Seen.{one_sees_the_other}
use Rattle.like_serial.proofs.laws.one_sees_the_other.Goals as goal

pub returns : goal.returns
returns c = one_sees_the_other
