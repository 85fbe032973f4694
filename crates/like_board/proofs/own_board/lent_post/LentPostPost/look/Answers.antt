use Rattle.std.proofs.Common.{ap}
use Rattle.like_core.specs.declared.view.WorkerSeatView.{WorkerSeatView}
use Rattle.like_board.proofs.LentPosts.{lent_looked, numbers_after}
use Rattle.like_board.proofs.own_board.lent_post.LentPostPost.look.Goals as goal

pub invariant_of-self : goal.invariant_of-self
invariant_of-self c =
    let told = c.look.ensures in
    record {
      lent = lent_looked c.args.self.now c.look.new.board c.look.new.self told.place told.board _
          (ap (λ (v : WorkerSeatView). v.looks) told.view) (ap (λ (v : WorkerSeatView). v.did) told.view) told.fresh;
    }

pub returns-clause-board : goal.returns-clause-board
returns-clause-board c =
    let told = c.look.ensures in
    numbers_after c.args.self.now c.look.new.board c.look.new.self told.place told.board
