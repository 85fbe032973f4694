use Rattle.told_lock.proofs.Keepers.{stays}
use Rattle.test_lock.proofs.desk.leave.Goals as goal

pub hand_over-requires-clause-keeper : goal.hand_over-requires-clause-keeper
hand_over-requires-clause-keeper c =
    let it = c.if-not-try_take.ensures.taken in (it.0, it.1, stays c.args.lock.now _ it.0 _ c.requires.desk it.2)
