use Rattle.std.proofs.Common.{ap, refl, subst, sym, ◌≡◌, ◌∙◌}
use Rattle.std.specs.Arc.{arc_value}
use Rattle.std.proofs.lemmas.Option.{same_Some}
use Rattle.like_shared.specs.declared.hub.Hub.{Hub}
use Rattle.like_shared.specs.Hubs.{IsAtDesk}
use Rattle.like_c.specs.Clients.{hub_of}
use Rattle.like_c.specs.Sharing.{parks, stays}
use Rattle.like_c.proofs.client_calls.likes_client_close.Goals as goal

pub returns-in_default-enter : goal.returns-in_default-enter
returns-in_default-enter c =
    stays _ _ c.in-Some.ensures.client refl c.enter.ensures.hub c.enter.ensures.client c.in_default-enter.ensures.card refl

pub park-requires : goal.park-requires
park-requires c =
    let same : hub_of c.into_inner.result ≡ hub_of c.in-Some.boxed.now =
    ap hub_of (c.into_inner.ensures ∙ sym (same_Some _ _ c.in-Some-take.ensures.taken))
    ∙ ap arc_value c.enter.ensures.hub in
    subst (λ (h : Hub). IsAtDesk h c.in-Some-enter.card) (sym same) c.in-Some-enter.ensures.card

pub returns : goal.returns
returns c = parks _ c.in-Some.ensures.client refl c.take.ensures.left
