use Rattle.std.proofs.Common.{refl, sym, subst}
use Rattle.told_lock.specs.Deeds.{HasRun}
use Rattle.like_shared.specs.Desk.{DeskDoes}
use Rattle.like_shared.proofs.hub.Hub.leave_after_parking.Goals as goal

pub give_back_after-requires : goal.give_back_after-requires
give_back_after-requires g c =
    let it = c.take_client.ensures.parked in (
      it.0,
      it.1,
      it.2,
      subst (λ ds. HasRun DeskDoes it.0 ds it.1) (sym c.requires.deed)
          (it.1, (c.args.self.now.service, it.3, it.4, it.5), refl),
    )
