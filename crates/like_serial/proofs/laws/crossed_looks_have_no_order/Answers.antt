use Rattle.like_serial.proofs.Crossed.{crossed_looks_have_no_order}
use Rattle.like_serial.proofs.laws.crossed_looks_have_no_order.Goals as goal

pub returns : goal.returns
returns c = crossed_looks_have_no_order
