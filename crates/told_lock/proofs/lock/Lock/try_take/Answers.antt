use Rattle.std.proofs.Common.{sym, subst, arith}
use Rattle.told_lock.specs.Rights.{first_of}
use Rattle.told_lock.proofs.Holding.{MayTry, tries}
use Rattle.told_lock.proofs.lock.Lock.try_take.Goals as goal

pub compare_exchange-requires : goal.compare_exchange-requires
compare_exchange-requires g c =
    let lock = c.args.self.now in
    let words = lock.words in
    let may = MayTry g.D.Deeds.does (first_of lock) lock.table.shared.table_id.slots c.args.pass.now.seat.id in
    (c.requires.here, omega (arith, words), subst may (sym c.requires.idle) (tries g.D.Deeds.does (first_of lock) _))
