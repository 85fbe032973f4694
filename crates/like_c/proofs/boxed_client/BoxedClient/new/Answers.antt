use Rattle.std.proofs.Common.{subst, sym, ◌∙◌}
use Rattle.like_shared.specs.declared.hub.Hub.{Hub}
use Rattle.like_shared.specs.Hubs.{IsAtDesk}
use Rattle.like_c.proofs.boxed_client.BoxedClient.new.Goals as goal

pub make_there-requires : goal.make_there-requires
make_there-requires c =
    subst (λ (h : Hub). IsAtDesk h c.enter.new.card) (c.deref.ensures ∙ sym c.deref-2.ensures)
    c.if-not-enter.ensures.entered

pub boxed-requires-clause-card : goal.boxed-requires-clause-card
boxed-requires-clause-card c =
    subst (λ (h : Hub). IsAtDesk h c.make_there.new.card) c.deref-2.ensures c.make_there.ensures.card

pub leave-requires : goal.leave-requires
leave-requires c =
    subst (λ (h : Hub). IsAtDesk h c.make_there.new.card) (c.deref-2.ensures ∙ sym c.deref-in-Err.ensures)
    c.make_there.ensures.card
