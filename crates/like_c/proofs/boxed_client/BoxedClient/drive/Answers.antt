use Rattle.std.proofs.Common.{ap, Ok, Err, refl, ◌∙◌}
use Rattle.like_shared.specs.declared.hub.Hub.{Hub}
use Rattle.like_c.proofs.Owners.{client-at}
use Rattle.like_c.proofs.boxed_client.BoxedClient.drive.Goals as goal

pub drive-requires-clause-client : goal.drive-requires-clause-client
drive-requires-clause-client g c =
    client-at c.args.self.now _ (c.service.ensures ∙ ap (λ (h : Hub). h.service) c.deref.ensures)

pub returns-in-Ok-clause-calls : goal.returns-in-Ok-clause-calls
returns-in-Ok-clause-calls g c =
    (Ok c.in-Ok.answer, refl, c.in-Ok.ensures.log, record { hub = refl; card = refl })

pub returns-in-Err-clause-calls : goal.returns-in-Err-clause-calls
returns-in-Err-clause-calls g c =
    (Err c.in-Err.field-0, refl, c.in-Err.ensures.log, record { hub = refl; card = refl })
