use Rattle.std.proofs.Common.{subst, sym}
use Rattle.told_lock.specs.Rights.{IsKeeper}
use Rattle.like_shared.specs.declared.hub.Hub.{Hub}
use Rattle.like_c.proofs.Owners.{cards-of}
use Rattle.like_c.proofs.boxed_shared.BoxedShared.new_client.Goals as goal

pub new_card-card-requires-clause-cards : goal.new_card-card-requires-clause-cards
new_card-card-requires-clause-cards c =
    subst (λ (h : Hub). IsKeeper h.desk c.args.self.now.cards) (sym c.deref.ensures) (cards-of c.args.self.now)
