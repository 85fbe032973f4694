use Rattle.std.proofs.Common.{◌≡◌, [], sym, subst}
use Rattle.like_core.specs.declared.worker_state.WorkerState.TheVariants.{Gone}
use Rattle.like_board.specs.Own.{own_view}
use Rattle.like_crew.specs.OwnServer.{OwnServerView}
use Rattle.like_crew.specs.Server.{IsLogOf}
use Rattle.like_crew.proofs.crew.server.own_server.OwnServer.finish.Goals as goal

pub returns-clause-log : goal.returns-clause-log
returns-clause-log g c =
    subst (λ (s : OwnServerView). IsLogOf s.server c.finish.result) c.self.view_is
    (c.finish.ensures [] (own_view c.self.inside.seat) c.self.invariant
    (subst (λ (s : OwnServerView). s.server.worker.post.state ≡ Gone) (sym c.self.view_is) c.requires))
