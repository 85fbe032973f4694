use Rattle.std.proofs.Common.{[], ap, refl}
use Rattle.like_board.specs.Own.{own_view}
use Rattle.like_queue.specs.Inbox.{view_of}
use Rattle.like_crew.specs.OwnServer.{OwnServerView}
use Rattle.like_crew.specs.ServerTurns.{OpensAll}
use Rattle.like_crew.proofs.servers.Boards.{at-board}
use Rattle.like_crew.proofs.servers.Opened.{goes-all, opened_of}
use Rattle.like_crew.proofs.crew.server.own_server.OwnServer+ListInbox.open_all.Goals as goal

pub invariant_of-self : goal.invariant_of-self
invariant_of-self c = (c.open_all.ensures [] (own_view c.self.inside.seat) c.self.invariant).0

pub returns-clause-opens : goal.returns-clause-opens
returns-clause-opens c =
    let post = own_view c.self.inside.seat in
    at-board view_of opened_of OpensAll [] [] post post c.self.inside.serving c.open_all.new.self _
    (ap (λ (s : OwnServerView). s.server) c.self.view_is) refl (λ b. (c.open_all.ensures b post c.self.invariant).1)

pub returns-clause-goes_on : goal.returns-clause-goes_on
returns-clause-goes_on c = goes-all _ _ (returns-clause-opens c)

pub returns-clause-post : goal.returns-clause-post
returns-clause-post c = ap (λ (s : OwnServerView). s.server.worker.post) c.self.view_is
