use Rattle.std.proofs.Common.{ap, arith, Ok, Err, refl, ◌∙◌}
use Rattle.like_shared.specs.declared.hub.Hub.{Hub}
use Rattle.like_shared.specs.Shared.{seats_of}
use Rattle.like_c.specs.Asks.{is_not, is_so}
use Rattle.like_c.proofs.Owners.{client-at, same-box}
use Rattle.like_c.proofs.boxed_client.BoxedClient.call.Goals as goal

pub call-requires-clause-client : goal.call-requires-clause-client
call-requires-clause-client g c =
    client-at c.args.self.now _ (c.service-2.ensures ∙ ap (λ (h : Hub). h.service) c.deref-2.ensures)

pub returns-in-Ok : goal.returns-in-Ok
returns-in-Ok g c = is_so
    (omega (arith, c.if-seat-seat_count.false, c.seat_count.ensures ∙ ap seats_of (c.service.ensures ∙ ap (λ (h : Hub). h.service) c.deref.ensures)))
    (Ok c.in-Ok.answer, refl, c.in-Ok.ensures.log, record { hub = refl; card = refl })

pub returns-in-Err : goal.returns-in-Err
returns-in-Err g c = is_so
    (omega (arith, c.if-seat-seat_count.false, c.seat_count.ensures ∙ ap seats_of (c.service.ensures ∙ ap (λ (h : Hub). h.service) c.deref.ensures)))
    (Err c.in-Err.field-0, refl, c.in-Err.ensures.log, record { hub = refl; card = refl })

pub returns-then-seat-seat_count : goal.returns-then-seat-seat_count
returns-then-seat-seat_count g c = is_not
    (λ less. omega (arith, less, c.if-seat-seat_count.true, c.seat_count.ensures ∙ ap seats_of (c.service.ensures ∙ ap (λ (h : Hub). h.service) c.deref.ensures)))
    refl (same-box _ _ _)
