use Rattle.std.proofs.Common.{subst}
use Rattle.like_roles.specs.worker.Posted.{PostedWorker}
use Rattle.like_roles.specs.worker.Turns.{Gives}
use Rattle.like_roles.specs.worker.Work.{worker_at}
use Rattle.like_roles.proofs.worker.Worker.give.Goals as goal

pub returns-clause-case : goal.returns-clause-case
returns-clause-case g c =
    subst (λ (v : PostedWorker). Gives v.worker c.args.taken c.give.result
    (worker_at (g.P.Post.view c.give.new.post) c.give.new.self)) c.self.view_is c.give.ensures.case

pub returns-clause-slice : goal.returns-clause-slice
returns-clause-slice g c = c.give.ensures.ready.kept.station.split
