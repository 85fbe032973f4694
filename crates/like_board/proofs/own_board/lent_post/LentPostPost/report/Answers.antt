use Rattle.std.proofs.Common.{ap}
use Rattle.like_core.specs.declared.view.WorkerSeatView.{WorkerSeatView}
use Rattle.like_board.proofs.LentPosts.{lent_after, numbers_after}
use Rattle.like_board.proofs.own_board.lent_post.LentPostPost.report.Goals as goal

pub invariant_of-self : goal.invariant_of-self
invariant_of-self c =
    let told = c.report.ensures in
    record {
      lent = lent_after c.args.self.now c.report.new.board c.report.new.self told.place told.board
          (ap (λ (v : WorkerSeatView). v.looks) told.view) (ap (λ (v : WorkerSeatView). v.did) told.view);
    }

pub returns-clause-board : goal.returns-clause-board
returns-clause-board c =
    let told = c.report.ensures in
    numbers_after c.args.self.now c.report.new.board c.report.new.self told.place told.board
