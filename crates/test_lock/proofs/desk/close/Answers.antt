use Rattle.told_lock.proofs.Keepers.{stays}
use Rattle.test_lock.proofs.desk.close.Goals as goal

pub close-requires-clause-keeper : goal.close-requires-clause-keeper
close-requires-clause-keeper c = let it = c.in-Ok.ensures in stays c.args.lock _ _ it.0 c.requires it.1
