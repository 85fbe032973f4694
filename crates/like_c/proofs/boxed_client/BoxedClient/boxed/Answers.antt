use Rattle.std.proofs.Common.{ap, subst, sym, ◌∙◌}
use Rattle.like_shared.specs.declared.hub.Hub.{Hub}
use Rattle.like_shared.specs.Hubs.{IsAtDesk}
use Rattle.like_c.specs.Clients.{hub_of}
use Rattle.like_c.proofs.boxed_client.BoxedClient.boxed.Goals as goal

pub leave-requires : goal.leave-requires
leave-requires c =
    let same = c.deref-in-Ok.ensures ∙ ap hub_of (c.deref.ensures ∙ c.in-Ok.ensures.ok) in
    subst (λ (h : Hub). IsAtDesk h c.args.card.now) (sym same) c.requires.card

pub park-requires : goal.park-requires
park-requires c =
    subst (λ (h : Hub). IsAtDesk h c.args.card.now) (sym (ap hub_of c.in-Err.ensures.value_returned)) c.requires.card
