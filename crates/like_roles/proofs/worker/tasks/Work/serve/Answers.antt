use Rattle.std.proofs.Common.{ℕ, refl, ap, sym, subst}
use Rattle.like_core.specs.Post.{has_read, number_of, pages_of}
use Rattle.like_promises.specs.declared.reply.Reply.TheVariants.{Seen}
use Rattle.like_promises.proofs.Asked.{HasPageBelow, page-there}
use Rattle.like_tables.specs.declared.held.Held.{Held}
use Rattle.like_seat.specs.Kept as kept
use Rattle.like_seat.specs.StationView.{StationView}
use Rattle.like_roles.specs.worker.Ledger.{HasRoomToNote, view_of}
use Rattle.like_roles.specs.worker.Judged.{IsJudged}
use Rattle.like_roles.specs.worker.Serve.{likes, looks, refuses}
use Rattle.like_roles.proofs.Counting.{read-settled}
use Rattle.like_roles.proofs.worker.tasks.Work.serve.Goals as goal

pub returns-in-Like-clause-serves : goal.returns-in-Like-clause-serves
returns-in-Like-clause-serves g c =
    let is = subst (IsJudged c.args.self.now.tables.last.share c.args.held.now) c.in-Like.is c.requires.can.judged in
    likes c.in-Like.user c.in-Like.page is refl c.like.ensures.liked

pub returns-in-Look : goal.returns-in-Look
returns-in-Look g c =
    let t = c.args.self.now.tables in
    let d = c.args.self.now.ledger in
    let s = kept.view_of (g.P.Post.board c.args.post.now) (g.P.Post.view c.args.post.now) t in
    let after = c.read_for-seen.new in
    let page : ℕ = c.in-Look.page in
    let count = c.read_for-seen.result.count in
    let seen = c.read_for-seen.ensures in
    let read = seen.reads.read in
    let is = subst (IsJudged t.last.share c.args.held.now) c.in-Look.is c.requires.can.judged in
    record {
      idle = record {
        kept = seen.kept;
        settled = read-settled s (kept.view_of (g.P.Post.board after.post) (g.P.Post.view after.post) after.self) d page
            count c.requires.idle.settled seen.kept.station read;
      };
      room = subst (λ (x : StationView Held). HasRoomToNote x d) (sym read) c.requires.room.ran;
      board = ap (λ (x : StationView Held). x.board) read;
      serves = looks c.in-Look.user page count is (ap (λ x. Seen x count) seen.reads.last) seen.reads.own
          (ap (λ (x : StationView Held). view_of x d) {y = record s { post = has_read s.post page count (number_of (g.P.Post.view after.post)) }} read);
    }

pub like-requires-clause-there : goal.like-requires-clause-there
like-requires-clause-there g c =
    let share = c.args.self.now.tables.last.share in
    let h = c.args.held.now in
    let pages = pages_of (g.P.Post.view c.args.post.now) in
    subst (HasPageBelow pages) (subst (IsJudged share h) c.in-Like.is c.requires.can.judged)
    (page-there share.users share.submitters h.submitter h.ask.request pages c.requires.can.own.there)

pub read_for-seen-requires-clause-there : goal.read_for-seen-requires-clause-there
read_for-seen-requires-clause-there g c =
    let share = c.args.self.now.tables.last.share in
    let h = c.args.held.now in
    let pages = pages_of (g.P.Post.view c.args.post.now) in
    subst (HasPageBelow pages) (subst (IsJudged share h) c.in-Look.is c.requires.can.judged)
    (page-there share.users share.submitters h.submitter h.ask.request pages c.requires.can.own.there)

pub returns-in-Refused-clause-room : goal.returns-in-Refused-clause-room
returns-in-Refused-clause-room g c = c.requires.room.ran

pub returns-in-Refused-clause-serves : goal.returns-in-Refused-clause-serves
returns-in-Refused-clause-serves g c =
    let is = subst (IsJudged c.args.self.now.tables.last.share c.args.held.now) c.in-Refused.is c.requires.can.judged in
    refuses c.in-Refused.verdict is refl refl
