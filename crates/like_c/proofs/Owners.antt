-- What is of one hub in a client's box, and in that of a shared service.
use Rattle.std.specs.Coded.{Unit-prop}
use Rattle.std.proofs.Common.{◌≡◌, Option, Some, None, subst, sym}
use mathlib.Core.Logic.{∥∥₁_elim, ∥∥₁_prop}
use Rattle.std.specs.Prelude.{IfSome}
use Rattle.told_lock.specs.Rights.{IsIdle, IsKeeper}
use Rattle.told_lock.specs.declared.pass.Pass.{Pass}
use Rattle.like_shared.specs.declared.desk.DeskDeed.{DeskDeed}
use Rattle.like_shared.specs.declared.hub.Hub.{Hub}
use Rattle.like_shared.specs.declared.service.ServiceKeeper.{ServiceKeeper}
use Rattle.like_shared.specs.declared.service.SharedService.{SharedService}
use Rattle.like_shared.specs.Shared.{IsClient}
use Rattle.like_shared.proofs.OwnClients.{card-prop, cards-prop, client-prop}
use Rattle.like_c.specs.Clients.{hub_of}
use Rattle.like_c.specs.Sharing.{shared_hub}
use Rattle.like_c.specs.declared.boxed_client.BoxedClient.{BoxedClient}
use Rattle.like_c.specs.declared.boxed_shared.BoxedShared.{BoxedShared}

-- the client is of the hub's service
pub client-of : (b : BoxedClient) → IsClient (hub_of b).service b.client
client-of b = ∥∥₁_elim b.client_is (client-prop (hub_of b).service b.client) (λ is. is)

-- so it is of a service that is the same
pub client-at : (b : BoxedClient) (s : SharedService) → s ≡ (hub_of b).service → IsClient s b.client
client-at b s is = subst (λ (t : SharedService). IsClient t b.client) (sym is) (client-of b)

is-card-prop : (h : Hub) (card : Option (Pass ServiceKeeper DeskDeed)) → IsProp (IfSome card (IsIdle h.desk))
is-card-prop h None = Unit-prop
is-card-prop h (Some card) = card-prop h card

-- the card is of its desk
pub card-of : (b : BoxedClient) → IfSome b.card (IsIdle (hub_of b).desk)
card-of b = ∥∥₁_elim b.card_is (is-card-prop (hub_of b) b.card) (λ is. is)

-- and so is the right to make cards
pub cards-of : (b : BoxedShared) → IsKeeper (shared_hub b).desk b.cards
cards-of b = ∥∥₁_elim b.cards_are (cards-prop (shared_hub b) b.cards) (λ is. is)

-- a client's box is the same, however it is known that its client and its card are of the hub
pub same-box : (b : BoxedClient) (client : ∥ IsClient (hub_of b).service b.client ∥₁)
    (card : ∥ IfSome b.card (IsIdle (hub_of b).desk) ∥₁) → record b { client_is = client; card_is = card } ≡ b
same-box b client card =
    λ i. record b { client_is = ∥∥₁_prop client b.client_is i; card_is = ∥∥₁_prop card b.card_is i }
