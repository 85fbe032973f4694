use Rattle.std.proofs.Common.{refl}
use Rattle.like_core.specs.Post.{has_read, number_of}
use Rattle.like_core.specs.declared.view.WorkerSeatView.{WorkerSeatView}
use Rattle.like_seat.proofs.Keeping.{Kept-read}
use Rattle.like_seat.proofs.tables.Tables.read_at.Goals as goal

pub returns-clause-kept : goal.returns-clause-kept
returns-clause-kept g c =
    let p = g.P.Post.view c.args.post.now in
    let now : WorkerSeatView = has_read p c.args.page c.read.result (number_of (g.P.Post.view c.read.new.self)) in
    Kept-read p (g.P.Post.view c.read.new.self) now.did now.logged c.args.self.now c.requires.kept c.read.ensures.view refl
