use Rattle.std.proofs.Common.{refl}
use Rattle.like_c.specs.Asks.{at_some}
use Rattle.like_c.proofs.client_calls.likes_client_unlock.Goals as goal

pub returns : goal.returns
returns c = at_some _ _ c.in-Some.ensures.client (c.unlock.result, c.unlock.ensures, c.of_done.ensures) refl
