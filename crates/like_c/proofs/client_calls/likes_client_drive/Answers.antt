use Rattle.std.proofs.Common.{Err, refl}
use Rattle.like_c.specs.Asks.{at_some}
use Rattle.like_c.specs.Clients.{CallsDriver}
use Rattle.like_c.specs.Status.{status, unknown_end}
use Rattle.like_c.proofs.Asking.{known, unknown}
use Rattle.like_c.proofs.client_calls.likes_client_drive.Goals as goal

pub returns-in-Some-end_of : goal.returns-in-Some-end_of
returns-in-Some-end_of c =
    at_some _ _ c.in-Some.ensures.client (
      c.drive.result,
      known CallsDriver _ c.in-Some-end_of.end _ _ _ c.in-Some-end_of.ensures c.drive.ensures.calls,
      c.of_told_driver.ensures,
    ) refl

pub returns-in-None : goal.returns-in-None
returns-in-None c =
    at_some _ _ c.in-Some.ensures.client
    (Err (status unknown_end), unknown CallsDriver _ _ c.in-None.ensures, refl) refl
