use Rattle.like_live.proofs.Crossed.{crossed_looks_are_not_serial}
use Rattle.like_live.proofs.laws.crossed_looks_are_not_serial.Goals as goal

pub returns : goal.returns
returns c = crossed_looks_are_not_serial
