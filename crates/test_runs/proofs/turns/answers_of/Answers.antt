use Rattle.std.proofs.Common.{get_or}
use Rattle.like_requests.specs.declared.script.Turned.TheVariants.{OpenOne}
use Rattle.like_crew.proofs.Coordinated.{crew-further, crew-same}
use Rattle.like_run.proofs.Entries.{can-make-later}
use Rattle.test_runs.proofs.turns.answers_of.Goals as goal

pub loop-entry-init : goal.loop-entry-init
loop-entry-init g c = crew-same c.args.crew.now

pub loop-entry-preserved : goal.loop-entry-preserved
loop-entry-preserved g c =
    crew-further _ c.loop-entry.crew c.answer_of.new.crew c.loop-entry.invariant c.answer_of.ensures

pub answer_of-requires : goal.answer_of-requires
answer_of-requires g c =
    can-make-later c.args.crew.now.servers c.loop-entry.crew.servers
    (get_or c.args.script.now c.loop-entry.entry-index (OpenOne 0)) c.loop-entry.invariant.servers
    (c.requires c.loop-entry.entry-index (OpenOne 0) c.loop-entry-test.true)
