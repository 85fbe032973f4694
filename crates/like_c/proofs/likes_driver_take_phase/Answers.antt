use Rattle.std.proofs.Common.{Ok, Err, refl, rules, sym}
use Rattle.like_c.specs.Asks.{at_some, fills, makes_none}
use Rattle.like_c.specs.Status.{all_taken, status}
use Rattle.like_c.proofs.likes_driver_take_phase.Goals as goal

pub returns-in-Some-take : goal.returns-in-Some-take
returns-in-Some-take c =
    let taken = c.in-Some-take.taken in
    fills taken.value (search rules) (at_some _ _ c.in-Some.ensures.driver (
      Ok taken.value,
      (((taken, refl, sym c.in-Some-take.ensures.value), c.in-Some-take.ensures.after), refl),
      refl,
    ) refl) refl c.put.ensures

pub returns-in-None : goal.returns-in-None
returns-in-None c =
    makes_none (search rules) (at_some _ _ c.in-Some.ensures.driver (
      Err (status all_taken),
      ((refl, sym c.in-None.ensures.value, c.in-None.ensures.after), refl),
      refl,
    ) refl) (search rules)
