use Rattle.std.proofs.Common.{Ok, refl}
use Rattle.like_c.specs.Asks.{at_some}
use Rattle.like_c.proofs.likes_proved_seat_come_back.Goals as goal

pub returns : goal.returns
returns c =
    at_some _ _ c.in-Some.ensures.seat
    (Ok c.come_back.result, ((c.come_back.ensures.case, c.come_back.ensures.same), refl), c.of_turn.ensures) refl
