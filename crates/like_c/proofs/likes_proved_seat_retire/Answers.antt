use Rattle.std.proofs.Common.{Ok, refl}
use Rattle.like_c.specs.Asks.{at_some}
use Rattle.like_c.proofs.likes_proved_seat_retire.Goals as goal

pub returns : goal.returns
returns c =
    at_some _ _ c.in-Some.ensures.seat
    (Ok c.retire.result, ((c.retire.ensures.case, c.retire.ensures.same), refl), c.of_turn.ensures) refl
