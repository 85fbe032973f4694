use Rattle.std.proofs.Common.{refl}
use Rattle.like_core.proofs.form.Form.answer.Goals as goal

pub returns-in-Counts : goal.returns-in-Counts
returns-in-Counts c = rw c.in-Counts.is refl
