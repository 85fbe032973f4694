use Rattle.std.proofs.Common.{Ok, Err, refl}
use Rattle.like_c.specs.Asks.{at_some}
use Rattle.like_c.proofs.client_calls.likes_client_last.Goals as goal

pub returns-in-Ok-Ok : goal.returns-in-Ok-Ok
returns-in-Ok-Ok c =
    at_some _ _ c.in-Some.ensures.client
    (Ok (Ok c.in-Ok-Ok.last), rw c.in-Ok-Ok.field-0-is at c.in-Ok-Ok.ensures, (refl, c.page_or_none.ensures)) refl

pub returns-in-Ok-Err : goal.returns-in-Ok-Err
returns-in-Ok-Err c =
    at_some _ _ c.in-Some.ensures.client
    (Ok (Err c.in-Ok-Err.verdict), rw c.in-Ok-Err.field-0-is at c.in-Ok-Err.ensures, (c.of_verdict.ensures, refl)) refl

pub returns-in-Err : goal.returns-in-Err
returns-in-Err c = at_some _ _ c.in-Some.ensures.client (Err c.in-Err.refused, c.in-Err.ensures, (refl, refl)) refl
