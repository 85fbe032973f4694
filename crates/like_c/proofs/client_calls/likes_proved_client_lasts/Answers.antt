use Rattle.std.proofs.Common.{refl}
use Rattle.like_c.specs.Asks.{at_none, at_some}
use Rattle.like_c.proofs.Unwritten.{unwritten-lasts}
use Rattle.like_c.proofs.client_calls.likes_proved_client_lasts.Goals as goal

pub returns-in_default : goal.returns-in_default
returns-in_default c = at_none c.in_default.ensures.client (refl, λ not. refl) c.in_default.ensures.client

pub returns : goal.returns
returns c =
    let told = c.of_told_lasts.ensures in
    at_some _ _ c.in-Some.ensures.client
    (c.row.result, c.row.ensures.calls, (told, unwritten-lasts _ _ c.row.result c.row.ensures.places told)) refl
