use Rattle.std.proofs.Common.{◌≡◌, sym, subst}
use Rattle.like_core.specs.declared.worker_state.WorkerState.TheVariants.{Gone}
use Rattle.like_crew.specs.Server.{IsLogOf, ServerView}
use Rattle.like_crew.proofs.crew.server.Server.finish.Goals as goal

pub returns-clause-log : goal.returns-clause-log
returns-clause-log g c =
    subst (λ (s : ServerView). IsLogOf s c.finish.result) c.self.view_is
    (c.finish.ensures (g.P.Post.board c.self.inside.post) (g.P.Post.view c.self.inside.post) c.self.invariant
    (subst (λ (s : ServerView). s.worker.post.state ≡ Gone) (sym c.self.view_is) c.requires))
