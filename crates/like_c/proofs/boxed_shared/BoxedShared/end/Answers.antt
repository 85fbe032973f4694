use Rattle.std.proofs.Common.{subst}
use Rattle.like_shared.specs.declared.hub.Hub.{Hub}
use Rattle.like_shared.specs.Hubs.{IsClosedBy, IsLastKeeper}
use Rattle.like_c.proofs.boxed_shared.BoxedShared.end.Goals as goal

pub returns-in-Ok-close-clause-closed : goal.returns-in-Ok-close-clause-closed
returns-in-Ok-close-clause-closed c =
    subst (λ (h : Hub). IsClosedBy (IsLastKeeper h) h c.close.new.counts) c.in-Ok.ensures.ok c.in-Ok-close.ensures.closed
