use Rattle.std.proofs.Common.{ap, arith, refl, ◌∙◌}
use Rattle.like_shared.specs.declared.hub.Hub.{Hub}
use Rattle.like_shared.specs.Shared.{seats_of}
use Rattle.like_c.specs.Asks.{is_not, is_so}
use Rattle.like_c.proofs.Owners.{client-at, same-box}
use Rattle.like_c.proofs.boxed_client.BoxedClient.lock.Goals as goal

pub lock-requires-clause-client : goal.lock-requires-clause-client
lock-requires-clause-client c =
    client-at c.args.self.now _ (c.service-2.ensures ∙ ap (λ (h : Hub). h.service) c.deref-2.ensures)

pub returns-in-Ok : goal.returns-in-Ok
returns-in-Ok c = is_so
    (omega (arith, c.if-seat-seat_count.false, c.seat_count.ensures ∙ ap seats_of (c.service.ensures ∙ ap (λ (h : Hub). h.service) c.deref.ensures)))
    (c.in-Ok.ensures.held, c.in-Ok.ensures.logs, record { hub = refl; card = refl })

pub returns-in-Err : goal.returns-in-Err
returns-in-Err c = is_so
    (omega (arith, c.if-seat-seat_count.false, c.seat_count.ensures ∙ ap seats_of (c.service.ensures ∙ ap (λ (h : Hub). h.service) c.deref.ensures)))
    ((refl, c.in-Err.ensures.free, c.in-Err.ensures.held), c.in-Err.ensures.logs, record { hub = refl; card = refl })

pub returns-then-seat-seat_count : goal.returns-then-seat-seat_count
returns-then-seat-seat_count c = is_not
    (λ less. omega (arith, less, c.if-seat-seat_count.true, c.seat_count.ensures ∙ ap seats_of (c.service.ensures ∙ ap (λ (h : Hub). h.service) c.deref.ensures)))
    refl (same-box _ _ _)
