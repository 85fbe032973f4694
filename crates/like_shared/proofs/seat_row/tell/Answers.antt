use Rattle.std.proofs.Common.{sym, subst}
use Rattle.told_lock.specs.Deeds.{HasRun}
use Rattle.like_shared.specs.Deeds.{SeatDoes}
use Rattle.like_shared.proofs.seat_row.tell.Goals as goal

pub give_back_after-requires : goal.give_back_after-requires
give_back_after-requires g c =
    let it = c.requires.made in
    (it.0, it.1, it.2, subst (λ ds. HasRun SeatDoes it.0 ds it.1) (sym c.requires.deeds) it.3)
