use Rattle.std.proofs.Common.{Ok, refl, subst, sym}
use Rattle.like_live.specs.Driver.{IsSameDriver}
use Rattle.like_shared.proofs.Same.{same-driver}
use Rattle.like_c.specs.Asks.{at_some}
use Rattle.like_c.proofs.likes_proved_driver_propose.Goals as goal

pub returns : goal.returns
returns c =
    let driver = c.in-Some.opened.now.driver in
    at_some _ _ c.in-Some.ensures.driver (
      Ok tt,
      (
        (
          c.propose.ensures,
          subst (IsSameDriver driver) (sym c.propose.ensures)
              (record { board = refl; opening = refl; marked = (same-driver driver).marked }),
        ),
        refl,
      ),
      refl,
    ) refl
