use Rattle.std.proofs.Common.{ap, subst, sym}
use Rattle.std.specs.Arc.{arc_value}
use Rattle.like_shared.specs.declared.hub.Hub.{Hub}
use Rattle.like_shared.specs.Hubs.{IsAtDesk}
use Rattle.like_c.proofs.boxed_client.BoxedClient.try_park.Goals as goal

pub park-requires : goal.park-requires
park-requires c =
    subst (λ (h : Hub). IsAtDesk h c.in-Some.card) (sym (ap arc_value c.in-Some.ensures.hub)) c.in-Some.ensures.card
