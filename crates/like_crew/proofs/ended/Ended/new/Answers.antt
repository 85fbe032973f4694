use Rattle.std.proofs.Common.{ap, ◌∙◌, subst}
use Rattle.like_roles.specs.coordinator.CoordTurns.{ChoseByCounts, CoordinatorView}
use Rattle.like_crew.proofs.ended.Ended.new.Goals as goal

pub returns-clause-coordinator : goal.returns-clause-coordinator
returns-clause-coordinator c = record {
  ended = c.requires;
  coord = c.finish-coord.ensures.board ∙ ap (λ (v : CoordinatorView). v.board) c.done.view_is;
  view = c.finish-coord.ensures.view ∙ ap (λ (v : CoordinatorView). v.seat) c.done.view_is;
  phases = c.phase-phases.ensures ∙ ap (λ (v : CoordinatorView). v.phase) c.done.view_is;
  chosen = c.finish-coord.ensures.chosen ∙ ap (λ (v : CoordinatorView). v.choice.chosen) c.done.view_is;
  chose = subst ChoseByCounts c.done.view_is c.done.invariant.1.chose;
}
