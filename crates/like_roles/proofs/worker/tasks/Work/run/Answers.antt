use Rattle.std.proofs.Common.{refl, ap, sym, ◌∙◌, arith}
use Rattle.like_core.specs.WorkerState.{phase_of}
use Rattle.like_roles.specs.declared.worker.ledger.Ledger.{Ledger}
use Rattle.like_roles.specs.worker.Work.{station_at, worker_at}
use Rattle.like_roles.proofs.Held.{settled-ran}
use Rattle.like_roles.proofs.Served.{GivesReply-state, Runs-noted}
use Rattle.like_roles.proofs.worker.tasks.Work.run.Goals as goal

pub returns-clause-ran : goal.returns-clause-ran
returns-clause-ran g c =
    let v = worker_at (g.P.Post.view c.args.post.now) c.args.self.now in
    let w = worker_at (g.P.Post.view c.serve-reply.new.post) c.serve-reply.new.self in
    let gives = c.serve-reply.ensures.serves in
    let state = GivesReply-state v c.args.held.submitter c.args.held.ask.request c.serve-reply.result w gives in
    let now = sym (ap phase_of state) ∙ ap phase_of c.serve-reply.ensures.idle.kept.state ∙ sym c.phase-phase.ensures in
    Runs-noted v w c.args.held c.args.stashed c.serve-reply.result c.phase-phase.result c.push_reserved.new.self.items
    gives now c.push_reserved.ensures.items

pub push_reserved-requires : goal.push_reserved-requires
push_reserved-requires g c = omega (arith, c.serve-reply.ensures.room)

pub returns-clause-idle : goal.returns-clause-idle
returns-clause-idle g c =
    let w = c.serve-reply.new.self in
    let e : Ledger = record (w.ledger) { ran = c.push_reserved.new.self } in
    record {
      kept = c.serve-reply.ensures.idle.kept;
      settled = settled-ran (station_at (g.P.Post.view c.serve-reply.new.post) w) w.ledger e c.serve-reply.ensures.idle.settled
          c.serve-reply.ensures.room c.push_reserved.ensures.len c.push_reserved.ensures.capacity refl;
    }
