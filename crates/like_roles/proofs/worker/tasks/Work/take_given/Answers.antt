use Rattle.std.proofs.Common.{None, true, refl, subst}
use Rattle.std.specs.Vec.{with_item}
use Rattle.like_roles.specs.declared.worker.ledger.Ledger.{Ledger}
use Rattle.like_roles.specs.worker.Turns.{CanGive, ends, asks}
use Rattle.like_roles.specs.worker.Work.{station_at, worker_at}
use Rattle.like_roles.proofs.Held.{settled-untried}
use Rattle.like_roles.proofs.worker.tasks.Work.take_given.Goals as goal

pub take-requires-clause-given : goal.take-requires-clause-given
take-requires-clause-given g c κs within =
    let v = worker_at (g.P.Post.view c.args.post.now) c.args.self.now in
    let next = (subst (λ t. CanGive v t) c.in-Ask.is c.requires.given) c.tried-rank.result c.tried-rank.ensures in
    record { number = next.number; some = next.some; there = next.there }

pub returns-in-End-clause-case : goal.returns-in-End-clause-case
returns-in-End-clause-case g c = ends c.tried-rank.result c.tried-rank.ensures c.in-End.is refl refl

pub returns-in-Ask-clause-case : goal.returns-in-Ask-clause-case
returns-in-Ask-clause-case g c = asks c.tried-rank.result c.in-Ask.ask c.tried-rank.ensures c.in-Ask.is c.take.ensures.case

pub take-requires-clause-idle : goal.take-requires-clause-idle
take-requires-clause-idle g c κs within =
    let d = c.args.self.now.ledger in
    record {
      kept = c.requires.ready.kept;
      settled = settled-untried (station_at (g.P.Post.view c.args.post.now) c.args.self.now) d (record d { pending = None })
          c.requires.ready.sound refl refl;
    }

pub take-requires-clause-tried : goal.take-requires-clause-tried
take-requires-clause-tried g c κs within =
    let tried = c.requires.ready.sound.tried c.tried-rank.result c.tried-rank.ensures in
    record { there = tried.there; running = tried.running; joined = tried.joined; split = tried.split }

pub returns-in-Nothing-clause-idle : goal.returns-in-Nothing-clause-idle
returns-in-Nothing-clause-idle g c =
    let d = c.args.self.now.ledger in
    record {
      kept = c.requires.ready.kept;
      settled = settled-untried (station_at (g.P.Post.view c.args.post.now) c.args.self.now) d (record d { pending = None })
          c.requires.ready.sound refl refl;
    }

pub returns-in-End-clause-idle : goal.returns-in-End-clause-idle
returns-in-End-clause-idle g c =
    let d = c.args.self.now.ledger in
    let e : Ledger = record d { pending = None; ended = with_item d.ended c.tried-rank.result true } in
    record {
      kept = c.requires.ready.kept;
      settled = settled-untried (station_at (g.P.Post.view c.args.post.now) c.args.self.now) d e c.requires.ready.sound
          refl refl;
    }
