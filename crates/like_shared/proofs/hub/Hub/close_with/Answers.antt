use Rattle.std.proofs.lemmas.Result.{IfErr-weaker, on_ok_weaker}
use Rattle.told_lock.specs.Deeds.{deeds_in}
use Rattle.told_lock.specs.Rights.{first_of, told_of}
use Rattle.like_shared.specs.Closed.{IsNotClosed}
use Rattle.like_shared.specs.Hubs.{IsKeeperAfter, IsNotClosedBy}
use Rattle.like_shared.proofs.Desks.{stays-kept}
use Rattle.like_shared.proofs.Kept.{kept}
use Rattle.like_shared.proofs.hub.Hub.close_with.Goals as goal

pub close-requires-clause-keeper : goal.close-requires-clause-keeper
close-requires-clause-keeper c =
    let leads = c.close-keeper.ensures in
    let h = c.args.self in
    stays-kept h.service (first_of h.desk) c.close-keeper.result (deeds_in leads.order) (kept h) leads.run

pub returns-clause-closed : goal.returns-clause-closed
returns-clause-closed c =
    on_ok_weaker c.close.result
    (λ closed. (c.close-keeper.result, (_, c.close-keeper.ensures), closed))
    c.close.ensures.closed

pub returns-clause-not : goal.returns-clause-not
returns-clause-not c =
    IfErr-weaker c.close.result (IsNotClosed c.args.self.service c.close-keeper.result)
    (IsNotClosedBy (IsKeeperAfter c.args.self (told_of c.args.cards)) c.args.self)
    (λ why is. (c.close-keeper.result, (_, c.close-keeper.ensures), is)) c.close.ensures.not
