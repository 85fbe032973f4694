use Rattle.std.proofs.Common.{sym, subst, arith}
use Rattle.told_lock.specs.Rights.{first_of}
use Rattle.told_lock.proofs.Keepers.{kept}
use Rattle.told_lock.proofs.Keeping.{MaySplit, splits}
use Rattle.told_lock.proofs.lock.Lock.new_pass.Goals as goal

pub split_seat-seat-requires : goal.split_seat-seat-requires
split_seat-seat-requires g c =
    let lock = c.args.self.now in
    let words = lock.words in
    let it = c.requires.keeper in
    let may = MaySplit g.D.Deeds.does (first_of lock) c.args.keeper.now.seat.id in
    (it.here, omega (arith, words), subst may (sym (kept lock c.args.keeper.now it)) (splits g.D.Deeds.does (first_of lock) _))
