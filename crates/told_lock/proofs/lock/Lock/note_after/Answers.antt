use Rattle.std.proofs.Common.{sym, subst, arith}
use Rattle.told_lock.specs.Rights.{first_of, name_of, seen_of}
use Rattle.told_lock.proofs.Holding.{MayNote, log-noted, notes}
use Rattle.told_lock.proofs.lock.Lock.note_after.Goals as goal

pub store-requires : goal.store-requires
store-requires g c =
    let lock = c.args.self.now in
    let words = lock.words in
    let it = c.requires.2 in
    let may = MayNote g.D.Deeds.does (first_of lock) g.J.Done.done lock.table.shared.table_id.slots c.args.pass.now.seat.id in (
      it.here,
      omega (arith, words),
      subst may (sym it.holding) (notes g.D.Deeds.does (first_of lock) _ _ c.requires.3),
    )

pub returns-clause-log : goal.returns-clause-log
returns-clause-log g c =
    let p = c.args.pass.now in
    log-noted p.seat.me c.store.new.seat.me (name_of p) (seen_of p) g.J.Done.done c.requires.2.holding c.store.ensures.2
