use Rattle.std.proofs.Common.{Bool, Option, subst, sym}
use Rattle.std.specs.Prelude.{IfSome, MatchBool}
use Rattle.told_lock.specs.Rights.{IsIdle}
use Rattle.told_lock.specs.declared.pass.Pass.{Pass}
use Rattle.like_shared.specs.declared.desk.DeskDeed.{DeskDeed}
use Rattle.like_shared.specs.declared.hub.Hub.{Hub}
use Rattle.like_shared.specs.declared.service.ServiceKeeper.{ServiceKeeper}
use Rattle.like_shared.specs.Hubs.{IsAtDesk}
use Rattle.like_c.specs.Clients.{hub_of}
use Rattle.like_c.proofs.Owners.{card-of}
use Rattle.like_c.proofs.boxed_client.BoxedClient.enter.Goals as goal

pub enter-requires : goal.enter-requires
enter-requires c =
    let own = subst (λ (card : Option (Pass ServiceKeeper DeskDeed)). IfSome card (IsIdle (hub_of c.args.self.now).desk))
    (sym c.in-Some.ensures.value) (card-of c.args.self.now) in
    subst (λ (h : Hub). IsIdle h.desk c.in-Some.card) (sym c.deref.ensures) own

pub returns-then-enter-clause-card : goal.returns-then-enter-clause-card
returns-then-enter-clause-card c =
    let there = subst
    (λ (b : Bool). MatchBool b (IsAtDesk c.deref.result.now c.enter.new.card) (IsIdle c.deref.result.now.desk c.enter.new.card))
    c.if-enter.true c.enter.ensures.entered in
    subst (λ (h : Hub). IsAtDesk h c.enter.new.card) c.deref.ensures there
