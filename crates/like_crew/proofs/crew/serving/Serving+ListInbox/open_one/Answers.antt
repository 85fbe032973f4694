use Rattle.std.proofs.Common.{ℕ, ◌/◌, refl, sym, ap, subst}
use Rattle.like_crew.specs.Server.{Agree}
use Rattle.like_roles.specs.worker.Work.{worker_at}
use Rattle.like_crew.proofs.servers.Opened.{opens-one, same-views}
use Rattle.like_crew.proofs.crew.serving.Serving+ListInbox.open_one.Goals as goal

pub returns : goal.returns
returns c = λ board post h.
    let lists = c.args.self.now.inboxes.items in
    let place : ℕ = c.args.submitter / c.args.self.now.workers in
    let i = c.index_mut.result.now in
    let j = c.open_one.new.self in
    let worker = worker_at post c.args.self.now.work in (
      record {
        ready = h.ready;
        untried = h.untried;
        workers = h.workers;
        agree = subst (Agree worker) (sym (same-views lists place i j _ c.requires.there c.index_mut.ensures.value
            c.open_one.ensures.inbox)) h.agree;
      },
      opens-one lists place i j _ c.requires.there c.index_mut.ensures.value c.open_one.ensures.inbox board worker
          c.args.submitter (ap (λ n. c.args.submitter / n) h.workers) refl,
    )
