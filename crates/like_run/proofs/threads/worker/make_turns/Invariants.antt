use Rattle.like_crew.specs.Server.{ServerGoesOn}
use Rattle.like_run.proofs.threads.worker.make_turns.Given as goal

abbrev pub invariant-loop : goal.invariant-loop
invariant-loop g l = ServerGoesOn l.initial.server l.server
