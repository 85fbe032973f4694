use Rattle.like_roles.proofs.choice.Coordinating.{coordinator-further, coordinator-same}
use Rattle.like_run.proofs.threads.coordinator.coordinate.Goals as goal

pub loop-init : goal.loop-init
loop-init g c = coordinator-same c.args.coordinator.now

pub loop-preserved : goal.loop-preserved
loop-preserved g c = coordinator-further _ c.loop.coordinator c.turn.new.self c.loop.invariant c.turn.ensures.goes_on
