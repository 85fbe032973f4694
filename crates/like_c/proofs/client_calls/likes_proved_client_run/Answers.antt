use Rattle.std.proofs.Common.{refl}
use Rattle.like_c.specs.Asks.{at_some}
use Rattle.like_c.proofs.client_calls.likes_proved_client_run.Goals as goal

pub returns-clause-rows : goal.returns-clause-rows
returns-clause-rows c = at_some _ _ c.in-Some.ensures.client c.run.ensures.case refl
