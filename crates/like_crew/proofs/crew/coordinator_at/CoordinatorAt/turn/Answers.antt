use Rattle.std.proofs.Common.{◌∙◌}
use Rattle.like_crew.proofs.crew.coordinator_at.CoordinatorAt.turn.Goals as goal

pub invariant_of-self : goal.invariant_of-self
invariant_of-self c = (
  c.turn.ensures.goes_on.board ∙ c.self.invariant.0,
  record {
    before_end = c.turn.ensures.keeps c.self.invariant.1.before_end;
    chose = c.turn.ensures.chose c.self.invariant.1.chose;
  },
)

pub returns-clause-ended : goal.returns-clause-ended
returns-clause-ended c = c.turn.ensures.ended c.self.invariant.1.before_end
