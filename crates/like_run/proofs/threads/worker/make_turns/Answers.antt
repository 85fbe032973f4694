use Rattle.like_crew.proofs.servers.Later.{goes-further, goes-same}
use Rattle.like_run.proofs.threads.worker.make_turns.Goals as goal

pub loop-init : goal.loop-init
loop-init g c = goes-same c.args.server.now

pub loop-preserved : goal.loop-preserved
loop-preserved g c = goes-further _ c.loop.server c.turn.new.self c.loop.invariant c.turn.ensures.goes_on

pub loop-preserved-then-tries-gt1 : goal.loop-preserved-then-tries-gt1
loop-preserved-then-tries-gt1 g c = goes-further _ c.loop.server c.turn.new.self c.loop.invariant c.turn.ensures.goes_on

pub loop-preserved-in-Idle-1 : goal.loop-preserved-in-Idle-1
loop-preserved-in-Idle-1 g c = goes-further _ c.loop.server c.turn.new.self c.loop.invariant c.turn.ensures.goes_on

pub loop-preserved-in-Acknowledged-1 : goal.loop-preserved-in-Acknowledged-1
loop-preserved-in-Acknowledged-1 g c =
    goes-further _ c.loop.server c.turn.new.self c.loop.invariant c.turn.ensures.goes_on

pub loop-preserved-in-Ran-1 : goal.loop-preserved-in-Ran-1
loop-preserved-in-Ran-1 g c = goes-further _ c.loop.server c.turn.new.self c.loop.invariant c.turn.ensures.goes_on

pub returns-in-Retired-clause-goes_on : goal.returns-in-Retired-clause-goes_on
returns-in-Retired-clause-goes_on g c =
    goes-further _ c.loop.server c.turn.new.self c.loop.invariant c.turn.ensures.goes_on

pub returns-in-Retired-clause-gone : goal.returns-in-Retired-clause-gone
returns-in-Retired-clause-gone g c = c.turn.ensures.retired c.in-Retired.is
