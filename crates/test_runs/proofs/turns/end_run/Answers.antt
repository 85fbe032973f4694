use Rattle.like_crew.proofs.Coordinated.{crew-further, crew-same}
use Rattle.test_runs.proofs.turns.end_run.Goals as goal

pub loop-init : goal.loop-init
loop-init g c = crew-same c.open_all.new.self

pub loop-preserved : goal.loop-preserved
loop-preserved g c = crew-further _ c.loop.crew c.round.new.self c.loop.invariant c.round.ensures.goes_on

pub returns-then-round-clause-goes_on : goal.returns-then-round-clause-goes_on
returns-then-round-clause-goes_on g c =
    crew-further c.args.crew.now c.open_all.new.self c.round.new.self c.open_all.ensures.goes_on
    (crew-further _ c.loop.crew c.round.new.self c.loop.invariant c.round.ensures.goes_on)
