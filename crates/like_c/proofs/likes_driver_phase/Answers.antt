use Rattle.std.proofs.Common.{refl}
use Rattle.like_c.specs.Asks.{at_some}
use Rattle.like_c.proofs.likes_driver_phase.Goals as goal

pub returns-in-Some : goal.returns-in-Some
returns-in-Some c = at_some _ _ c.in-Some.ensures.driver (c.phase.ensures, refl) refl
