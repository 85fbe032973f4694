use Rattle.std.proofs.Common.{sym, subst}
use Rattle.told_lock.specs.Deeds.{HasRun}
use Rattle.like_shared.specs.Deeds.{SeatDoes}
use Rattle.like_shared.proofs.seat_row.note.Goals as goal

pub note_after-requires : goal.note_after-requires
note_after-requires g c =
    let it = c.requires.made in
    (it.0, it.1, it.2, subst (λ ds. HasRun SeatDoes it.0 ds it.1) (sym c.requires.deeds) it.3)

pub returns-clause-holding : goal.returns-clause-holding
returns-clause-holding g c = let it = c.note_after.ensures.holding in (it.1, it.3)
