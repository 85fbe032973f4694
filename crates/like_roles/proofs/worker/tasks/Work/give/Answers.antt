use Rattle.like_roles.specs.worker.Work.{worker_at}
use Rattle.like_roles.proofs.Followed.{follows-give}
use Rattle.like_roles.proofs.Keeps.{gives-takes}
use Rattle.like_roles.proofs.worker.tasks.Work.give.Goals as goal

pub returns-clause-follows : goal.returns-clause-follows
returns-clause-follows g c = λ workload asked f.
    let station = c.requires.ready.sound.station in
    follows-give workload (worker_at (g.P.Post.view c.args.post.now) c.args.self.now) c.args.taken c.take_given.result
    (worker_at (g.P.Post.view c.take_given.new.post) c.take_given.new.self) c.requires.next asked station.split station.masked
    c.take_given.ensures.idle.settled.sound.station.waiting.within c.take_given.ensures.case f

pub returns-clause-takes : goal.returns-clause-takes
returns-clause-takes g c =
    gives-takes (worker_at (g.P.Post.view c.args.post.now) c.args.self.now) c.args.taken c.take_given.result
    (worker_at (g.P.Post.view c.take_given.new.post) c.take_given.new.self) c.take_given.ensures.case
