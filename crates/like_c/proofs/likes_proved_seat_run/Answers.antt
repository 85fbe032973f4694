use Rattle.std.proofs.Common.{refl}
use Rattle.like_c.specs.Asks.{at_some}
use Rattle.like_c.proofs.likes_proved_seat_run.Goals as goal

pub returns-clause-rows : goal.returns-clause-rows
returns-clause-rows c = at_some _ _ c.in-Some.ensures.seat (c.run.ensures.case, c.run.ensures.unasked, c.run.ensures.same) refl
