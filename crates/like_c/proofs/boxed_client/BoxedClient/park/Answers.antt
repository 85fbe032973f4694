use Rattle.std.proofs.Common.{ap, subst, sym}
use Rattle.like_shared.specs.declared.hub.Hub.{Hub}
use Rattle.like_shared.specs.Hubs.{IsAtDesk}
use Rattle.like_c.proofs.Owners.{client-at}
use Rattle.like_c.proofs.boxed_client.BoxedClient.park.Goals as goal

pub park_there-requires-clause-client : goal.park_there-requires-clause-client
park_there-requires-clause-client c = client-at c.args.self _ (ap (λ (h : Hub). h.service) c.deref.ensures)

pub park_there-requires-clause-card : goal.park_there-requires-clause-card
park_there-requires-clause-card c = subst (λ (h : Hub). IsAtDesk h c.args.card.now) (sym c.deref.ensures) c.requires
