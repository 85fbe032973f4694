use Rattle.std.proofs.Common.{refl, sym, true≢false}
use Rattle.like_crew.proofs.crew.own_crew.OwnCrew.ends.Goals as goal

pub returns-in-Ended : goal.returns-in-Ended
returns-in-Ended c = record {
  leads = (c.turn.result, (c.turn.ensures.leads, (λ e. c.in-Ended.is, λ ended. refl)));
  goes_on = c.turn.ensures.goes_on;
  ended = λ _. c.turn.ensures.ended c.in-Ended.is;
}

pub returns-in_default : goal.returns-in_default
returns-in_default c = record {
  leads = (
    c.turn.result,
    (
      c.turn.ensures.leads,
      (λ e. absurd (true≢false (sym e)), λ ended. absurd (c.in_default.not-Ended ended)),
    ),
  );
  goes_on = c.turn.ensures.goes_on;
  ended = λ e. absurd (true≢false (sym e));
}
