use Rattle.told_lock.specs.Rights.{first_of}
use Rattle.told_lock.proofs.Ends.{frees}
use Rattle.told_lock.proofs.lock.Lock.into_inner.Goals as goal

pub returns-then-is_free : goal.returns-then-is_free
returns-then-is_free g c =
    frees g.D.Deeds.does (first_of c.args.self) _ c.close-closed.ensures.values.2 c.word-is_free.ensures c.if-is_free.true
    c.take-value.ensures.value
