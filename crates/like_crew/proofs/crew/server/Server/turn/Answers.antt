use Rattle.like_crew.specs.Fresh.{IsModelled}
use Rattle.like_crew.specs.Server.{ServerGoesOn}
use Rattle.like_crew.specs.ServerTurns.{ServerTurns, TakesOpen}
use Rattle.like_crew.proofs.servers.Boards.{at-board}
use Rattle.like_crew.proofs.crew.server.Server.turn.Goals as goal

pub returns-clause-case : goal.returns-clause-case
returns-clause-case g c =
    let view = g.I.Inbox.view in
    let opened = g.I.Inbox.opened in
    at-board view opened (ServerTurns c.turn.result) (g.P.Post.board c.self.inside.post) (g.P.Post.board c.turn.new.post)
    (g.P.Post.view c.self.inside.post) (g.P.Post.view c.turn.new.post) c.self.inside.serving c.turn.new.self _
    c.self.view_is c.turn.ensures.board c.turn.ensures.case

pub returns-clause-modelled : goal.returns-clause-modelled
returns-clause-modelled g c =
    let view = g.I.Inbox.view in
    let opened = g.I.Inbox.opened in
    at-board view opened IsModelled (g.P.Post.board c.self.inside.post) (g.P.Post.board c.turn.new.post)
    (g.P.Post.view c.self.inside.post) (g.P.Post.view c.turn.new.post) c.self.inside.serving c.turn.new.self _
    c.self.view_is c.turn.ensures.board c.turn.ensures.modelled

pub returns-clause-only_open : goal.returns-clause-only_open
returns-clause-only_open g c = λ only.
    let view = g.I.Inbox.view in
    let opened = g.I.Inbox.opened in
    at-board view opened TakesOpen (g.P.Post.board c.self.inside.post) (g.P.Post.board c.turn.new.post)
    (g.P.Post.view c.self.inside.post) (g.P.Post.view c.turn.new.post) c.self.inside.serving c.turn.new.self _
    c.self.view_is c.turn.ensures.board (c.turn.ensures.only_open only)

pub returns-clause-goes_on : goal.returns-clause-goes_on
returns-clause-goes_on g c =
    let view = g.I.Inbox.view in
    let opened = g.I.Inbox.opened in
    at-board view opened ServerGoesOn (g.P.Post.board c.self.inside.post) (g.P.Post.board c.turn.new.post)
    (g.P.Post.view c.self.inside.post) (g.P.Post.view c.turn.new.post) c.self.inside.serving c.turn.new.self _
    c.self.view_is c.turn.ensures.board c.turn.ensures.goes_on
