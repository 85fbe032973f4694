use Rattle.std.proofs.Common.{append-nil, refl, ◌∙◌}
use Rattle.told_lock.specs.Rights.{log_of}
use Rattle.like_shared.proofs.hub.Hub.leave.Goals as goal

pub give_back_after-requires : goal.give_back_after-requires
give_back_after-requires c = (c.requires.0, c.requires.0, c.requires.1, refl)

pub returns-clause-log : goal.returns-clause-log
returns-clause-log c = c.give_back_after.ensures.log ∙ append-nil (log_of c.args.card.now)
