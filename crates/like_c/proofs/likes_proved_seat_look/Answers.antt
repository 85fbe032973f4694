use Rattle.std.proofs.Common.{Ok, refl}
use Rattle.like_c.specs.Asks.{at_some}
use Rattle.like_c.proofs.likes_proved_seat_look.Goals as goal

pub returns-clause-case : goal.returns-clause-case
returns-clause-case c =
    at_some _ _ c.in-Some.ensures.seat
    (Ok c.look.result, ((c.look.ensures.case, c.look.ensures.same), refl), c.of_look.ensures) refl
