use Rattle.std.proofs.Common.{Ok, Err, refl}
use Rattle.like_c.specs.Asks.{at_some}
use Rattle.like_c.specs.Held.{CallsOpened}
use Rattle.like_c.specs.Status.{status, unknown_end}
use Rattle.like_c.proofs.Asking.{known, unknown}
use Rattle.like_c.proofs.likes_driver_turn.Goals as goal

pub returns-in-Some-end_of : goal.returns-in-Some-end_of
returns-in-Some-end_of c =
    at_some _ _ c.in-Some.ensures.driver (
      Ok c.turn.result,
      known CallsOpened _ c.in-Some-end_of.end _ _ _ c.in-Some-end_of.ensures
          ((c.turn.ensures.case, c.turn.ensures.same), refl),
      c.of_driver.ensures,
    ) refl

pub returns-in-None : goal.returns-in-None
returns-in-None c =
    at_some _ _ c.in-Some.ensures.driver
    (Err (status unknown_end), unknown CallsOpened _ _ c.in-None.ensures, refl) refl
