use Rattle.like_serial.proofs.Follows.{serial_is_between}
use Rattle.like_serial.proofs.laws.serial_is_between.Goals as goal

pub returns : goal.returns
returns c = serial_is_between
