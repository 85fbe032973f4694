use Rattle.std.proofs.Common.{inr, refl, rules}
use Rattle.like_c.specs.Asks.{fills, makes_none}
use Rattle.like_c.proofs.likes_proved_open.Goals as goal

pub returns-in-Ok : goal.returns-in-Ok
returns-in-Ok c = fills c.in-Ok.opened.value (search rules) (search rules, c.in-Ok.ensures.opened) refl c.put.ensures

pub returns-in-Err : goal.returns-in-Err
returns-in-Err c =
    makes_none (search rules)
    (inr (search rules, (c.in-Err.error, c.in-Err.ensures.refused, c.of_open.ensures))) (search rules)
