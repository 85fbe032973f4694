use Rattle.std.proofs.Common.{refl}
use Rattle.like_c.specs.Asks.{at_some}
use Rattle.like_c.proofs.client_calls.likes_client_glance.Goals as goal

pub returns-clause-case : goal.returns-clause-case
returns-clause-case c =
    at_some _ _ c.in-Some.ensures.client (c.call.result, c.call.ensures, c.of_told_glance.ensures) refl
