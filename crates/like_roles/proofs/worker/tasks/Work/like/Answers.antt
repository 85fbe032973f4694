use Rattle.std.proofs.Common.{ap, sym, subst, ◌∙◌}
use Rattle.like_core.specs.WorkerState.{phase_of}
use Rattle.like_tables.specs.declared.held.Held.{Held}
use Rattle.like_seat.specs.Kept as kept
use Rattle.like_seat.specs.StationView.{StationView}
use Rattle.like_seat.specs.Steps.{CountsLike}
use Rattle.like_roles.proofs.Counting.{liked-board, liked-slice}
use Rattle.like_roles.proofs.worker.tasks.Work.like.Goals as goal

pub returns-in-Some : goal.returns-in-Some
returns-in-Some g c =
    let s = kept.view_of (g.P.Post.board c.args.post.now) (g.P.Post.view c.args.post.now) c.args.self.now.tables in
    let t = kept.view_of (g.P.Post.board c.count_like.new.post) (g.P.Post.view c.count_like.new.post) c.count_like.new.self in
    let counts = subst (λ r. CountsLike s c.args.user c.args.page r t) c.in-Some.is c.count_like.ensures.counts in
    let all = liked-board s t c.args.self.now.ledger c.note_addition.new.self c.args.user c.args.page c.phase-phase.result
    c.in-Some.old c.requires.idle.settled c.requires.room c.count_like.ensures.kept.station counts
    (c.phase-phase.ensures ∙ sym (ap phase_of c.requires.idle.kept.state))
    c.note_addition.ensures in
    record {
      idle = record { kept = c.count_like.ensures.kept; settled = all.0 };
      room = all.1;
      board = ap (λ (x : StationView Held). x.board) counts.1;
      liked = all.2;
    }

pub returns-in_default : goal.returns-in_default
returns-in_default g c =
    let s = kept.view_of (g.P.Post.board c.args.post.now) (g.P.Post.view c.args.post.now) c.args.self.now.tables in
    let t = kept.view_of (g.P.Post.board c.count_like.new.post) (g.P.Post.view c.count_like.new.post) c.count_like.new.self in
    let counts = subst (λ r. CountsLike s c.args.user c.args.page r t) c.in_default.is c.count_like.ensures.counts in
    let all = liked-slice s t c.args.self.now.ledger c.args.user c.args.page c.requires.idle.settled c.requires.room
    c.count_like.ensures.kept.station c.requires.there counts in
    record {
      idle = record { kept = c.count_like.ensures.kept; settled = all.0 };
      room = all.1;
      board = ap (λ (x : StationView Held). x.board) counts.1;
      liked = all.2;
    }
