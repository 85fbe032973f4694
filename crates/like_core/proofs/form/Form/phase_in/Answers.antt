use Rattle.std.proofs.Common.{refl}
use Rattle.like_core.proofs.form.Form.phase_in.Goals as goal

pub returns-in-Counts : goal.returns-in-Counts
returns-in-Counts c = rw c.in-Counts.is refl

pub returns-in-Bits : goal.returns-in-Bits
returns-in-Bits c = rw c.in-Bits.is refl
