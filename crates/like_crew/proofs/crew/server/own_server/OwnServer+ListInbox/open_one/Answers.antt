use Rattle.std.proofs.Common.{◌<◌, ◌/◌, [], length, map, sym, subst, arith, ap, refl}
use Rattle.std.proofs.lemmas.List.{length-map}
use Rattle.like_board.specs.Own.{own_view}
use Rattle.like_queue.specs.Inbox.{view_of}
use Rattle.like_roles.specs.worker.Work.{worker_at}
use Rattle.like_crew.specs.OwnServer.{OwnServerView}
use Rattle.like_crew.specs.ServerTurns.{OpensOne, rank_at}
use Rattle.like_crew.proofs.servers.Boards.{at-board}
use Rattle.like_crew.proofs.servers.Opened.{goes-one, opened_of}
use Rattle.like_crew.proofs.crew.server.own_server.OwnServer+ListInbox.open_one.Goals as goal

pub open_one-requires-clause-some : goal.open_one-requires-clause-some
open_one-requires-clause-some c = omega (arith, c.self.invariant.workers, c.self.invariant.agree.is_worker)

pub open_one-requires-clause-there : goal.open_one-requires-clause-there
open_one-requires-clause-there c =
    let lists = c.self.inside.serving.inboxes.items in
    let required : c.args.submitter / (worker_at (own_view c.self.inside.seat) c.self.inside.serving.work).last.share.workers < length (map view_of lists) =
    subst (λ (s : OwnServerView). rank_at s.server c.args.submitter < length s.server.inboxes) (sym c.self.view_is) c.requires in
    let same = ap (λ n. c.args.submitter / n) c.self.invariant.workers in
    omega (arith, required, same, length-map lists view_of)

pub invariant_of-self : goal.invariant_of-self
invariant_of-self c = (c.open_one.ensures [] (own_view c.self.inside.seat) c.self.invariant).0

pub returns-clause-opens : goal.returns-clause-opens
returns-clause-opens c =
    let post = own_view c.self.inside.seat in
    at-board view_of opened_of (OpensOne c.args.submitter) [] [] post post c.self.inside.serving c.open_one.new.self _
    (ap (λ (s : OwnServerView). s.server) c.self.view_is) refl (λ b. (c.open_one.ensures b post c.self.invariant).1)

pub returns-clause-goes_on : goal.returns-clause-goes_on
returns-clause-goes_on c = goes-one c.args.submitter _ _ (returns-clause-opens c)

pub returns-clause-post : goal.returns-clause-post
returns-clause-post c = ap (λ (s : OwnServerView). s.server.worker.post) c.self.view_is
