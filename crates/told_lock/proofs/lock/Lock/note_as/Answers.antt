use Rattle.std.proofs.Common.{refl, sym, subst}
use Rattle.told_lock.specs.Deeds.{HasRun}
use Rattle.told_lock.proofs.lock.Lock.note_as.Goals as goal

pub note_after-requires : goal.note_after-requires
note_after-requires g c =
    let it = c.requires.holding in
    (it.0, it.1, it.2, subst (λ cs. HasRun g.D.Deeds.does it.0 cs it.1) (sym c.requires.deed) (it.1, it.3, refl))
