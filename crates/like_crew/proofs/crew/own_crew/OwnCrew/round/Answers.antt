use Rattle.std.proofs.Common.{true≢false, sym, ◌∙◌}
use Rattle.like_crew.proofs.crew.own_crew.OwnCrew.round.Goals as goal

pub returns-then-ended-clause-round : goal.returns-then-ended-clause-round
returns-then-ended-clause-round c =
    let led = c.ends-ended.ensures.leads in
    let told = c.turns-gone.ensures in
    record {
      answer = led.0;
      led = c.ends-ended.new.self;
      leads = led.1.0;
      workers = told.turns;
      tells = (λ e. (led.1.1.0 c.if-ended.true, told.gone.0 e), λ ended. told.gone.1 ended.1);
    }

pub returns-else-ended-clause-round : goal.returns-else-ended-clause-round
returns-else-ended-clause-round c =
    let led = c.ends-ended.ensures.leads in
    let told = c.turns-gone.ensures in
    record {
      answer = led.0;
      led = c.ends-ended.new.self;
      leads = led.1.0;
      workers = told.turns;
      tells = (
        λ e. absurd (true≢false (sym e ∙ c.if-ended.false)),
        λ ended. absurd (true≢false (sym (led.1.1.1 ended.0) ∙ c.if-ended.false)),
      );
    }
