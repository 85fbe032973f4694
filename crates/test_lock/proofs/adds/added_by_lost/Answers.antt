use Rattle.std.proofs.Common.{arith}
use Rattle.test_lock.proofs.Adding.{added}
use Rattle.test_lock.proofs.adds.added_by_lost.Goals as goal

pub returns-in-Ok : goal.returns-in-Ok
returns-in-Ok c =
    let it = c.in-Ok.ensures in
    let sums = added _ _ it.0 it.1 in
    let first = c.in_ok-lock.ensures.first in omega (arith, sums, first)
