use Rattle.like_serial.proofs.Reports.{one_thread_is_right}
use Rattle.like_serial.proofs.laws.one_thread_is_right.Goals as goal

pub returns : goal.returns
returns c = one_thread_is_right
