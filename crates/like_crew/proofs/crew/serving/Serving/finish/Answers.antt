use Rattle.std.proofs.Common.{◌≤◌, ◌∙◌, List, sym, subst}
use Rattle.std.specs.List.{AllPairs}
use Rattle.like_promises.specs.declared.log.Took.{Took}
use Rattle.like_roles.specs.worker.Work.{worker_at}
use Rattle.like_roles.specs.worker.WorkerView.{WorkerView}
use Rattle.like_roles.proofs.Started.{follows-done}
use Rattle.like_crew.specs.Server.{NoneAbove, ServerView}
use Rattle.like_crew.specs.Serving.{server_at}
use Rattle.like_crew.proofs.servers.Finishing.{takes-plans}
use Rattle.like_crew.proofs.crew.serving.Serving.finish.Goals as goal

pub returns : goal.returns
returns g c = λ board post h gone.
    let s : ServerView = server_at g.I.Inbox.view g.I.Inbox.opened board post c.args.self in
    let told = c.finish.ensures in
    let worker : WorkerView = worker_at post c.args.self.work in
    record {
      last = told.last;
      taken = told.taken;
      ran = told.ran;
      adds = told.adds;
      unnoted = λ notes. told.adds ∙ h.agree.unnoted notes;
      rising = subst (AllPairs (λ (t u : Took). t.phase ≤ u.phase)) (sym told.taken) h.agree.rising;
      above = subst (λ (taken : List Took). NoneAbove post.last taken) (sym told.taken) h.agree.above;
      each = λ workload works masks.
          let done = follows-done workload worker (works.follows masks) gone h.ready.sound.station.split in
          (takes-plans workload s h.agree works done, done);
    }
