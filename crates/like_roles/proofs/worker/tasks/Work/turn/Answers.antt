use Rattle.like_roles.specs.worker.Work.{worker_at}
use Rattle.like_roles.proofs.Followed.{follows-turn}
use Rattle.like_roles.proofs.Keeps.{turns-keeps}
use Rattle.like_roles.proofs.Started.{turns-pends, turns-retired}
use Rattle.like_roles.proofs.worker.tasks.Work.turn.Goals as goal

pub returns : goal.returns
returns g c =
    let v = worker_at (g.P.Post.view c.args.post.now) c.args.self.now in
    let turn = c.next_turn in
    let w = worker_at (g.P.Post.view turn.new.post) turn.new.self in
    let untried = c.requires.untried in
    let station = c.requires.ready.sound.station in
    let case = turn.ensures.case in
    record {
      ready = turn.ensures.ready;
      board = turn.ensures.board;
      case = case;
      follows = λ workload right f.
          follows-turn workload v turn.result w untried station.split station.masked right case f;
      takes = turns-keeps v turn.result w case;
      pending = turns-pends v turn.result w untried case;
      retired = turns-retired v turn.result w case;
    }
