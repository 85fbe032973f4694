use Rattle.std.proofs.Common.{ap}
use Rattle.like_core.specs.declared.view.WorkerSeatView.{WorkerSeatView}
use Rattle.like_board.proofs.LentPosts.{lent_found, numbers_after}
use Rattle.like_board.proofs.own_board.lent_post.LentPostPost.read.Goals as goal

pub invariant_of-self : goal.invariant_of-self
invariant_of-self c =
    let told = c.read.ensures in
    record {
      lent = lent_found c.args.self.now c.read.new.board c.read.new.self told.place told.board _
          (ap (λ (v : WorkerSeatView). v.looks) told.view) (ap (λ (v : WorkerSeatView). v.did) told.view) told.present;
    }

pub returns-clause-board : goal.returns-clause-board
returns-clause-board c =
    let told = c.read.ensures in
    numbers_after c.args.self.now c.read.new.board c.read.new.self told.place told.board
