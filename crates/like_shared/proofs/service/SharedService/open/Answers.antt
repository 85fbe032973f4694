use Rattle.std.proofs.Common.{arith}
use Rattle.like_shared.proofs.service.SharedService.open.Goals as goal

pub share-requires-clause-some : goal.share-requires-clause-some
share-requires-clause-some c =
    let it = c.in_ok-driver.ensures.opened in omega (arith, it.fresh.len, it.within.1.1.1.0.0)
