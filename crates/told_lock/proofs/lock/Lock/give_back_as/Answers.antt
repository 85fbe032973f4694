use Rattle.std.proofs.Common.{refl, sym, subst}
use Rattle.told_lock.specs.Deeds.{HasRun}
use Rattle.told_lock.proofs.lock.Lock.give_back_as.Goals as goal

pub give_back_after-requires : goal.give_back_after-requires
give_back_after-requires g c =
    let it = c.requires.holding in
    (it.0, it.1, it.2, subst (λ cs. HasRun g.D.Deeds.does it.0 cs it.1) (sym c.requires.deed) (it.1, it.3, refl))
