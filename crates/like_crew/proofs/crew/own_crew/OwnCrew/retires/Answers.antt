use Rattle.std.proofs.Common.{refl, sym, true≢false}
use Rattle.like_crew.proofs.servers.Turning.{gone-told}
use Rattle.like_crew.proofs.crew.own_crew.OwnCrew.retires.Goals as goal

pub returns-in-Retired : goal.returns-in-Retired
returns-in-Retired c =
    let t = c.turn_at.ensures.case in
    record {
      case = record {
        before = t.before;
        after = t.after;
        here = t.here;
        step = ((c.turn_at.result, t.step.0), (λ _. t.step.1 c.in-Retired.is, λ _. refl));
        rest = t.rest;
      };
      rest = c.turn_at.ensures.rest;
      goes_on = c.turn_at.ensures.goes_on;
    }

pub returns-in_default : goal.returns-in_default
returns-in_default c =
    let t = c.turn_at.ensures.case in
    record {
      case = record {
        before = t.before;
        after = t.after;
        here = t.here;
        step = (
          (c.turn_at.result, t.step.0),
          (
            λ e. absurd (true≢false (sym e)),
            λ gone. absurd (c.in_default.not-Retired (gone-told c.turn_at.result t.before t.after gone
                t.step.0.turn.whole)),
          ),
        );
        rest = t.rest;
      };
      rest = c.turn_at.ensures.rest;
      goes_on = c.turn_at.ensures.goes_on;
    }
