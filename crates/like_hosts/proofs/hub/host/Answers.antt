use Rattle.std.proofs.Common.{refl}
use Rattle.like_hosts.proofs.Whole.{hosted}
use Rattle.like_hosts.proofs.hub.host.Goals as goal

pub returns-clause-strict : goal.returns-clause-strict
returns-clause-strict g c =
    let it = c.in-Ok.ensures.closed in
    λ is_closed. hosted c.args.opening.now c.in_ok-hub.hub.service it.0 c.close.new.counts
    c.in_ok-hub.ensures.opened it.2

pub returns-clause-unchanged : goal.returns-clause-unchanged
returns-clause-unchanged g c = λ no. absurd (no refl)
