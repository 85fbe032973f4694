use Rattle.like_serial.proofs.OneThread.{one_thread_is_serial}
use Rattle.like_serial.proofs.laws.one_thread_is_serial.Goals as goal

pub returns : goal.returns
returns c = one_thread_is_serial
