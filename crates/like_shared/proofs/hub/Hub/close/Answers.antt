use Rattle.told_lock.specs.Rights.{first_of}
use Rattle.like_shared.proofs.Desks.{stays-kept}
use Rattle.like_shared.proofs.Kept.{kept}
use Rattle.like_shared.proofs.hub.Hub.close.Goals as goal

pub close-requires-clause-keeper : goal.close-requires-clause-keeper
close-requires-clause-keeper c =
    let it = c.in-Ok.ensures in
    let h = c.args.self in stays-kept h.service (first_of h.desk) _ it.0 (kept h) it.1

pub returns-in-Ok-close-clause-closed : goal.returns-in-Ok-close-clause-closed
returns-in-Ok-close-clause-closed c = (c.in-Ok.keeper, c.in-Ok.ensures, c.in-Ok-close.ensures.closed)

pub returns-in-Err-clause-not : goal.returns-in-Err-clause-not
returns-in-Err-clause-not c = (c.in-Ok.keeper, c.in-Ok.ensures, c.in-Err.ensures.not)
