use Rattle.std.proofs.Common.{subst}
use Rattle.like_roles.specs.worker.Posted.{PostedWorker}
use Rattle.like_roles.specs.worker.Turns.{Turns}
use Rattle.like_roles.specs.worker.Work.{worker_at}
use Rattle.like_roles.proofs.worker.Worker.turn.Goals as goal

pub returns-clause-case : goal.returns-clause-case
returns-clause-case g c =
    subst (λ (v : PostedWorker). Turns v.worker c.turn.result (worker_at (g.P.Post.view c.turn.new.post) c.turn.new.self))
    c.self.view_is c.turn.ensures.case

pub returns-clause-slice : goal.returns-clause-slice
returns-clause-slice g c = c.turn.ensures.ready.kept.station.split
