use Rattle.std.proofs.Common.{Ok, Some, None, refl}
use Rattle.like_c.specs.Asks.{at_some}
use Rattle.like_c.proofs.likes_proved_seat_take_found.Goals as goal

pub returns-in-Some-take_found : goal.returns-in-Some-take_found
returns-in-Some-take_found c =
    at_some _ _ c.in-Some.ensures.seat (
      Ok (Some c.in-Some-take_found.it),
      ((c.in-Some-take_found.ensures.takes, c.in-Some-take_found.ensures.same), refl),
      (c.in-Some-take_found.ensures.next, refl, c.of.ensures),
    ) refl

pub returns-in-None : goal.returns-in-None
returns-in-None c =
    at_some _ _ c.in-Some.ensures.seat
    (Ok None, ((c.in-None.ensures.takes, c.in-None.ensures.same), refl), (refl, refl)) refl
