use Rattle.std.proofs.Common.{map, refl, sym, subst, ◌∙◌, arith}
use Rattle.std.proofs.lemmas.List.{length-set}
use Rattle.like_queue.specs.Inbox.{view_of}
use Rattle.like_roles.specs.worker.Work.{worker_at}
use Rattle.like_roles.specs.declared.worker.tasks.Work.{Work}
use Rattle.like_crew.specs.Server.{Agree}
use Rattle.like_crew.specs.ServerTurns.{OpensAll}
use Rattle.like_crew.proofs.servers.Opened.{below-more, below-none, opens-all, server}
use Rattle.like_crew.proofs.crew.serving.Serving+ListInbox.open_all.Goals as goal

pub loop-place-init : goal.loop-place-init
loop-place-init c = record {
  places = c.len-places.ensures ∙ c.args.self.now.inboxes.ok.0;
  len = refl;
  work = refl;
  workers = refl;
  below = below-none c.args.self.now.inboxes.items;
}

pub loop-place-preserved : goal.loop-place-preserved
loop-place-preserved c =
    let l = c.loop-place in
    let lists = l.self.inboxes.items in
    record {
      places = l.invariant.places;
      len = length-set lists l.place c.open_all.new.self ∙ l.invariant.len;
      work = l.invariant.work;
      workers = l.invariant.workers;
      below = below-more c.args.self.now.inboxes.items lists l.place c.index_mut.result.now c.open_all.new.self
          (omega (arith, l.invariant.places, l.invariant.len)) c.index_mut.ensures.value c.open_all.ensures
          l.invariant.below;
    }

pub index_mut-requires : goal.index_mut-requires
index_mut-requires c =
    let l = c.loop-place in omega (arith, l.invariant.places, l.invariant.len, l.self.inboxes.ok.0)

pub returns : goal.returns
returns c = λ board post h.
    let l = c.loop-place in
    let first = c.args.self.now in
    let lists = l.self.inboxes.items in
    let worker = worker_at post first.work in
    let agree : Agree worker (map view_of lists) = subst (Agree worker) (sym l.invariant.below.same) h.agree in (
      record {
        ready = rw l.invariant.work h.ready;
        untried = rw l.invariant.work h.untried;
        workers = l.invariant.workers ∙ rw l.invariant.work h.workers;
        agree = rw l.invariant.work agree;
      },
      subst (λ (w : Work). OpensAll (server board worker first.inboxes.items) (server board (worker_at post w) lists))
          (sym l.invariant.work)
          (opens-all board worker first.inboxes.items lists l.place (omega (arith, l.invariant.places)) l.invariant.below),
    )
