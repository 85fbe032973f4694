use Rattle.told_lock.specs.Rights.{first_of}
use Rattle.told_lock.proofs.Ends.{closes}
use Rattle.told_lock.proofs.Keepers.{kept}
use Rattle.told_lock.proofs.lock.Lock.close.Goals as goal

pub returns : goal.returns
returns g c =
    closes g.D.Deeds.does (first_of c.args.self) _ (kept c.args.self c.args.keeper c.requires.keeper) c.requires.back
    c.close_with-closed.ensures.values.2 c.take-value.ensures.value
