use Rattle.std.proofs.Common.{subst}
use Rattle.like_seat.specs.StationView.{IsSliceInSplit}
use Rattle.like_roles.specs.worker.Posted.{PostedWorker}
use Rattle.like_roles.proofs.Started.{follows-done}
use Rattle.like_roles.proofs.worker.Worker.finish.Goals as goal

pub returns-clause-done : goal.returns-clause-done
returns-clause-done g c = λ workload f.
    let kept = subst (λ (v : PostedWorker). IsSliceInSplit v.worker.post v.worker.slice) c.self.view_is
    c.self.invariant.sound.station.split in
    follows-done workload c.args.self.worker f c.requires kept
