use Rattle.like_serial.proofs.Reports.{right_is_one_thread}
use Rattle.like_serial.proofs.laws.right_is_one_thread.Goals as goal

pub returns : goal.returns
returns c = right_is_one_thread
