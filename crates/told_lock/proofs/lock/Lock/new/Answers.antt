use Rattle.std.proofs.Common.{refl, arith}
use Rattle.told_lock.proofs.Ends.{opens}
use Rattle.told_lock.proofs.lock.Lock.new.Goals as goal

pub new-requires : goal.new-requires
new-requires g c =
    opens g.D.Deeds.does c.of-first.result.value (omega arith) refl c.of-first.ensures c.in_ok-slots.ensures.items
    c.push_reserved.ensures.items
