use Rattle.like_roles.proofs.choice.Coordinating.{before_end, chose-on, coordinator-goes-on, ended_joined}
use Rattle.like_roles.proofs.coordinator.CoordinatorOf.turn_at.Goals as goal

pub returns : goal.returns
returns g c =
    let turn = c.act.ensures.case.turn in
    record {
      case = c.act.ensures.case;
      led = c.act.ensures.led;
      goes_on = coordinator-goes-on _ _ _ turn;
      keeps = before_end _ _ _ turn;
      ended = ended_joined _ _ _ turn;
      chose = chose-on _ _ _ turn;
    }
