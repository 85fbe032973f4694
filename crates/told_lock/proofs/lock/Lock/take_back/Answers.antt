use Rattle.std.proofs.Common.{sym, ap, subst, arith}
use Rattle.told_lock.specs.Rights.{first_of}
use Rattle.told_lock.proofs.Keepers.{kept}
use Rattle.told_lock.proofs.Keeping.{MayJoin, joins}
use Rattle.told_lock.proofs.lock.Lock.take_back.Goals as goal

pub join_seat-requires : goal.join_seat-requires
join_seat-requires g c =
    let lock = c.args.self.now in
    let words = lock.words in
    let it = c.requires.keeper in
    let pass = c.requires.idle in
    let may = MayJoin g.D.Deeds.does (first_of lock) c.args.keeper.now.seat.id in
    let other = c.args.pass.seat in (
      it.here,
      pass.here,
      ap (λ m. m.1) pass.idle,
      omega (arith, words),
      subst (λ v. may v other.id other.me.0) (sym (kept lock c.args.keeper.now it))
          (subst (may _ other.id) (sym (ap (λ m. m.0) pass.idle)) (joins g.D.Deeds.does (first_of lock))),
    )
