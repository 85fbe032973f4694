use Rattle.std.proofs.Common.{◌<◌, ◌/◌, [], length, map, ap, sym, subst, arith, refl}
use Rattle.std.proofs.lemmas.List.{length-map}
use Rattle.like_queue.specs.Inbox.{view_of}
use Rattle.like_roles.specs.worker.Work.{worker_at}
use Rattle.like_crew.specs.Server.{ServerView}
use Rattle.like_crew.specs.ServerTurns.{OpensOne, rank_at}
use Rattle.like_crew.proofs.servers.Boards.{at-board}
use Rattle.like_crew.proofs.servers.Opened.{goes-one, opened_of}
use Rattle.like_crew.proofs.crew.server.Server+P+ListInbox.open_one.Goals as goal

pub open_one-requires-clause-some : goal.open_one-requires-clause-some
open_one-requires-clause-some g c = omega (arith, c.self.invariant.workers, c.self.invariant.agree.is_worker)

pub open_one-requires-clause-there : goal.open_one-requires-clause-there
open_one-requires-clause-there g c =
    let lists = c.self.inside.serving.inboxes.items in
    let required : c.args.submitter / (worker_at (g.P.Post.view c.self.inside.post) c.self.inside.serving.work).last.share.workers < length (map view_of lists) =
    subst (λ (s : ServerView). rank_at s c.args.submitter < length s.inboxes) (sym c.self.view_is) c.requires in
    let same = ap (λ n. c.args.submitter / n) c.self.invariant.workers in
    omega (arith, required, same, length-map lists view_of)

pub invariant_of-self : goal.invariant_of-self
invariant_of-self g c = (c.open_one.ensures [] (g.P.Post.view c.self.inside.post) c.self.invariant).0

pub returns-clause-opens : goal.returns-clause-opens
returns-clause-opens g c =
    let board = g.P.Post.board c.self.inside.post in
    let post = g.P.Post.view c.self.inside.post in
    at-board view_of opened_of (OpensOne c.args.submitter) board board post post c.self.inside.serving c.open_one.new.self _ c.self.view_is refl
    (λ b. (c.open_one.ensures b post c.self.invariant).1)

pub returns-clause-goes_on : goal.returns-clause-goes_on
returns-clause-goes_on g c = goes-one c.args.submitter _ _ (returns-clause-opens g c)
