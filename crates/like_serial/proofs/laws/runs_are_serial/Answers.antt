use Rattle.like_serial.proofs.Serial.{runs_are_serial}
use Rattle.like_serial.proofs.laws.runs_are_serial.Goals as goal

pub returns : goal.returns
returns c = runs_are_serial
