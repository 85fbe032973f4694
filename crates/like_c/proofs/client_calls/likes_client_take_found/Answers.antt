use Rattle.std.proofs.Common.{Ok, Err, Some, None, refl}
use Rattle.like_c.specs.Asks.{at_some}
use Rattle.like_c.proofs.client_calls.likes_client_take_found.Goals as goal

pub returns-in-Ok-Some : goal.returns-in-Ok-Some
returns-in-Ok-Some c =
    at_some _ _ c.in-Some.ensures.client
    (Ok (Some c.in-Ok-Some.it), rw c.in-Ok-Some.field-0-is at c.in-Ok-Some.ensures, (refl, c.of.ensures)) refl

pub returns-in-Ok-None : goal.returns-in-Ok-None
returns-in-Ok-None c =
    at_some _ _ c.in-Some.ensures.client
    (Ok None, rw c.in-Ok-None.field-0-is at c.in-Ok-None.ensures, (refl, refl)) refl

pub returns-in-Err : goal.returns-in-Err
returns-in-Err c = at_some _ _ c.in-Some.ensures.client (Err c.in-Err.refused, c.in-Err.ensures, (refl, refl)) refl
