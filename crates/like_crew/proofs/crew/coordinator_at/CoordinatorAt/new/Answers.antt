use Rattle.std.proofs.Common.{ap, ◌∙◌}
use Rattle.like_roles.specs.coordinator.CoordTurns.{CoordinatorView}
use Rattle.like_crew.proofs.crew.coordinator_at.CoordinatorAt.new.Goals as goal

pub invariant_of-result : goal.invariant_of-result
invariant_of-result c = (
  ap (λ (v : CoordinatorView). v.board) c.in-Ok.ensures.new ∙ c.requires.here,
  c.in-Ok.ensures.coordinating c.requires.new,
)
