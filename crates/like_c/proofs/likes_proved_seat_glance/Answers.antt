use Rattle.std.proofs.Common.{Ok, refl}
use Rattle.like_c.specs.Asks.{at_some}
use Rattle.like_c.proofs.likes_proved_seat_glance.Goals as goal

pub returns-clause-case : goal.returns-clause-case
returns-clause-case c =
    at_some _ _ c.in-Some.ensures.seat
    (Ok c.glance.result, ((c.glance.ensures.case, c.glance.ensures.same), refl), c.of_glance.ensures) refl
