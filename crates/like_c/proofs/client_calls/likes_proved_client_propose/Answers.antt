use Rattle.std.proofs.Common.{refl}
use Rattle.like_c.specs.Asks.{at_some}
use Rattle.like_c.proofs.client_calls.likes_proved_client_propose.Goals as goal

pub returns : goal.returns
returns c = at_some _ _ c.in-Some.ensures.client (c.drive.result, c.drive.ensures.calls, c.of_done.ensures) refl
