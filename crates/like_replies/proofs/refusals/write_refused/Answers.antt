use Rattle.std.proofs.Common.{append_assoc}
use Rattle.like_replies.proofs.refusals.write_refused.Goals as goal

pub returns : goal.returns
returns g c = simp append_assoc c.write.ensures.bytes
