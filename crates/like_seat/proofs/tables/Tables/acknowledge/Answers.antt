use Rattle.like_seat.proofs.Keeping.{Kept-answered}
use Rattle.like_seat.proofs.tables.Tables.acknowledge.Goals as goal

pub returns-clause-kept : goal.returns-clause-kept
returns-clause-kept g c =
    Kept-answered (g.P.Post.view c.args.post.now) (g.P.Post.view c.acknowledge.new.self) c.args.self.now c.phase.result
    c.requires.kept c.requires.runs c.phase.ensures c.acknowledge.ensures.view
