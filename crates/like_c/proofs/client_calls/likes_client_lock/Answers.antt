use Rattle.std.proofs.Common.{refl}
use Rattle.like_c.specs.Asks.{at_some}
use Rattle.like_c.proofs.client_calls.likes_client_lock.Goals as goal

pub returns : goal.returns
returns c = at_some _ _ c.in-Some.ensures.client (c.lock.result, c.lock.ensures, c.of_done.ensures) refl
