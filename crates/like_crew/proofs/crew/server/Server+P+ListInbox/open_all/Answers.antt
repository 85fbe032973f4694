use Rattle.std.proofs.Common.{[], refl}
use Rattle.like_queue.specs.Inbox.{view_of}
use Rattle.like_crew.specs.ServerTurns.{OpensAll}
use Rattle.like_crew.proofs.servers.Boards.{at-board}
use Rattle.like_crew.proofs.servers.Opened.{goes-all, opened_of}
use Rattle.like_crew.proofs.crew.server.Server+P+ListInbox.open_all.Goals as goal

pub invariant_of-self : goal.invariant_of-self
invariant_of-self g c = (c.open_all.ensures [] (g.P.Post.view c.self.inside.post) c.self.invariant).0

pub returns-clause-opens : goal.returns-clause-opens
returns-clause-opens g c =
    let board = g.P.Post.board c.self.inside.post in
    let post = g.P.Post.view c.self.inside.post in
    at-board view_of opened_of OpensAll board board post post c.self.inside.serving c.open_all.new.self _ c.self.view_is refl
    (λ b. (c.open_all.ensures b post c.self.invariant).1)

pub returns-clause-goes_on : goal.returns-clause-goes_on
returns-clause-goes_on g c = goes-all _ _ (returns-clause-opens g c)
