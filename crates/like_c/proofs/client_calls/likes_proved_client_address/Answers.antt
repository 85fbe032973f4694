use Rattle.std.proofs.Common.{Ok, Err, refl}
use Rattle.like_c.specs.Asks.{at_some}
use Rattle.like_c.proofs.client_calls.likes_proved_client_address.Goals as goal

pub returns-in-Ok : goal.returns-in-Ok
returns-in-Ok c = at_some _ _ c.in-Some.ensures.client (Ok c.in-Ok.at, c.in-Ok.ensures.calls, refl) refl

pub returns-in-Err : goal.returns-in-Err
returns-in-Err c = at_some _ _ c.in-Some.ensures.client (Err c.in-Err.refused, c.in-Err.ensures.calls, refl) refl
