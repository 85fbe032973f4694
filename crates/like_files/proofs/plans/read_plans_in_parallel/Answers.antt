use Rattle.std.proofs.Common.{◌≡◌, ◌<◌, length, arith}
use Rattle.like_files.proofs.FailedReads.{TellsOwn, gathered-told}
use Rattle.like_files.proofs.Planned.{AllZip-jobs, Reads, RefusesPlans-memory, in_parallel}
use Rattle.like_files.proofs.plans.read_plans_in_parallel.Goals as goal

pub returns-in-Ok : goal.returns-in-Ok
returns-in-Ok g c =
    let same : length c.in-Ok.answers.items ≡ length c.args.requests.items =
    omega (arith, c.in-Ok.answers.ok.0, c.in-Ok.ensures.len, c.args.requests.ok.0) in
    let reads = AllZip-jobs (Reads g.R.Read.remaining c.args.pages.now) c.args.requests.items c.in-Ok.answers.items same
    (λ i d there. let given = (c.in-Ok.ensures.each i d there).1 in
    record { job = given.job; is_job = given.job_is; holds = given.call.met.0 }) in
    let own = AllZip-jobs TellsOwn c.args.requests.items c.in-Ok.answers.items same
    (λ i d there. let given = (c.in-Ok.ensures.each i d there).1 in
    record { job = given.job; is_job = given.job_is; holds = given.call.met.1 }) in
    record {
      plans = in_parallel g.R.Read.remaining c.args.pages.now c.args.requests.items c.in-Ok.answers.items
          c.gather.result reads
          c.gather.ensures;
      read = gathered-told c.args.requests.items c.in-Ok.answers.items c.gather.result own c.gather.ensures;
    }

pub returns-in-Err : goal.returns-in-Err
returns-in-Err g c =
    let some : 0 < length c.args.requests.items =
    omega (arith, c.if-len-lt2.false, c.len.ensures, c.args.requests.ok.0) in
    rw c.of_requests.ensures (record {
      plans = RefusesPlans-memory g.R.Read.remaining c.args.pages.now c.args.requests.items some;
      read = λ file script is. cc is;
    })
