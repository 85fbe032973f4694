use Rattle.std.proofs.Common.{length, ap, refl, subst, sym, ◌≡◌, ◌∙◌}
use Rattle.std.specs.Arc.{arc_value}
use Rattle.std.proofs.lemmas.Option.{same_Some}
use Rattle.like_shared.specs.declared.hub.Hub.{Hub}
use Rattle.like_shared.specs.Hubs.{IsClosedBy, IsLastKeeper}
use Rattle.like_shared.specs.Shared.{pages_of}
use Rattle.like_c.specs.Sharing.{close_lost, close_pages, close_stays, closes_hub, shared_hub}
use Rattle.like_c.proofs.shared_calls.likes_proved_shared_close.Goals as goal

pub returns-then-counts-pages : goal.returns-then-counts-pages
returns-then-counts-pages c =
    close_pages c.in-Some.boxed.now c.in-Some.ensures.service
    (λ same. c.if-counts-pages.true (same ∙ sym c.pages.ensures)) refl refl (sym c.in-Some.ensures.service)

pub returns-in-Err : goal.returns-in-Err
returns-in-Err c =
    close_stays c.in-Some.boxed.now _ c.in-Some.ensures.service (c.if-counts-pages.false ∙ c.pages.ensures)
    c.in-Err.ensures.refused refl c.in-Err.ensures.keeps refl

pub end-requires : goal.end-requires
end-requires c =
    let same : shared_hub c.into_inner.result ≡ shared_hub c.in-Some.boxed.now =
    ap shared_hub (c.into_inner.ensures ∙ sym (same_Some _ _ c.in-Some-take.ensures.taken))
    ∙ ap arc_value c.check_end.ensures.keeps.hub in
    subst (λ (h : Hub). length c.args.counts.now ≡ pages_of h.service) (sym same)
    (c.if-counts-pages.false ∙ c.pages.ensures)

pub returns-in-Ok : goal.returns-in-Ok
returns-in-Ok c =
    let same : shared_hub c.into_inner.result ≡ shared_hub c.in-Some.boxed.now =
    ap shared_hub (c.into_inner.ensures ∙ sym (same_Some _ _ c.in-Some-take.ensures.taken))
    ∙ ap arc_value c.check_end.ensures.keeps.hub in
    closes_hub c.in-Some.boxed.now c.in-Some.ensures.service
    (subst (λ (h : Hub). IsClosedBy (IsLastKeeper h) h c.end.new.counts) same c.in-Ok.ensures.closed) refl c.in-Some-take.ensures.left

pub returns-in-Err-end : goal.returns-in-Err-end
returns-in-Err-end c =
    close_lost c.in-Some.boxed.now c.in-Some.ensures.service (c.if-counts-pages.false ∙ c.pages.ensures)
    c.in-Err-end.ensures.refused c.in-Err-end.ensures.unchanged
    c.in-Some-take.ensures.left
