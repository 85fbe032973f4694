use Rattle.std.proofs.Common.{Ok, Err, refl, rules}
use Rattle.like_c.specs.Asks.{at_some, fills, makes_none}
use Rattle.like_c.proofs.shared_calls.likes_proved_client_open.Goals as goal

pub returns-in-Ok : goal.returns-in-Ok
returns-in-Ok c =
    let made = c.in-Ok.ensures in
    fills c.in-Ok.made.value (search rules) (at_some _ _ c.in-Some.ensures.service
    (Ok c.in-Ok.made.value, (made.keeps, made.out, made.made), refl) refl) refl c.put.ensures

pub returns-in-Err : goal.returns-in-Err
returns-in-Err c =
    let told = c.in-Err.ensures in
    makes_none (search rules) (at_some _ _ c.in-Some.ensures.service
    (Err c.in-Err.refused, (told.keeps, told.out, told.refused), refl) refl) (search rules)
