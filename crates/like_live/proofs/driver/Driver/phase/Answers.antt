use Rattle.std.proofs.Common.{ap, ◌∙◌}
use Rattle.like_live.specs.Driver.{DriverView}
use Rattle.like_live.proofs.driver.Driver.phase.Goals as goal

pub returns : goal.returns
returns g c = c.phase.ensures ∙ ap (λ (v : DriverView). v.lead.seat.phase) c.self.view_is
