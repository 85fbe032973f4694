use Rattle.std.proofs.Common.{Ok, refl}
use Rattle.like_c.specs.Asks.{at_some}
use Rattle.like_c.proofs.likes_proved_seat_like.Goals as goal

pub returns : goal.returns
returns c =
    at_some _ _ c.in-Some.ensures.seat
    (Ok c.like.result, ((c.like.ensures.case, c.like.ensures.same), refl), c.of_like.ensures) refl
