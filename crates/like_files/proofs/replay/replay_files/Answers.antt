use Rattle.std.proofs.Common.{refl, map, inl}
use Rattle.std.proofs.lemmas.Result.{err_from_is_err_and}
use Rattle.like_files.specs.Inputs.{inputs_in}
use Rattle.like_files.proofs.Ended.{lists-refused}
use Rattle.like_files.proofs.replay.replay_files.Goals as goal

pub returns-in_err-pages-clause-replayed : goal.returns-in_err-pages-clause-replayed
returns-in_err-pages-clause-replayed g c =
    let p = err_from_is_err_and c.from_residual.result c.from_residual.ensures.1 in
    rw (p.1, p.2) (record { done = tt; fault = inl c.in_err-pages.ensures.file; untouched = λ before. refl })

pub returns-in_err-pages-clause-read : goal.returns-in_err-pages-clause-read
returns-in_err-pages-clause-read g c =
    let p = err_from_is_err_and c.from_residual.result c.from_residual.ensures.1 in
    rw (p.1, p.2) c.in_err-pages.ensures.read

pub returns-in_err-plans-clause-replayed : goal.returns-in_err-plans-clause-replayed
returns-in_err-plans-clause-replayed g c =
    let p = err_from_is_err_and c.from_residual-in_err-plans.result c.from_residual-in_err-plans.ensures.1 in
    rw (p.1, p.2) (record {
      done = tt;
      fault = inl (lists-refused (g.R.Read.remaining c.args.pages) (map g.R.Read.remaining c.args.requests.items)
          c.in_ok-pages.pages c.in_err-plans.field-0.0 c.in_ok-pages.ensures.file c.in_err-plans.ensures.plans);
      untouched = λ before. refl;
    })

pub returns-in_err-plans-clause-read : goal.returns-in_err-plans-clause-read
returns-in_err-plans-clause-read g c =
    let p = err_from_is_err_and c.from_residual-in_err-plans.result c.from_residual-in_err-plans.ensures.1 in
    rw (p.1, p.2)
    (c.in_err-plans.ensures.read c.args.pages c.args.script)

pub returns-in_err-replay_read-clause-replayed : goal.returns-in_err-replay_read-clause-replayed
returns-in_err-replay_read-clause-replayed g c =
    let p = err_from_is_err_and c.from_residual-in_err-replay_read.result c.from_residual-in_err-replay_read.ensures.1 in
    let read = c.in_err-replay_read.ensures.replayed
    (inputs_in g.R.Read.remaining
    (record { pages = c.args.pages; requests = c.args.requests; script = c.args.script }))
    c.in_ok-pages.ensures.file c.in_ok-plans.ensures.plans refl in
    rw (p.1, p.2) (record { done = tt; fault = read.fault; untouched = read.untouched })

pub returns-in_err-replay_read-clause-read : goal.returns-in_err-replay_read-clause-read
returns-in_err-replay_read-clause-read g c =
    let p = err_from_is_err_and c.from_residual-in_err-replay_read.result c.from_residual-in_err-replay_read.ensures.1 in
    rw (p.1, p.2) (c.in_err-replay_read.ensures.read c.args.pages c.args.requests.items)

pub returns-clause-replayed : goal.returns-clause-replayed
returns-clause-replayed g c =
    let read = c.in_ok-replay_read.ensures.replayed
    (inputs_in g.R.Read.remaining
    (record { pages = c.args.pages; requests = c.args.requests; script = c.args.script }))
    c.in_ok-pages.ensures.file c.in_ok-plans.ensures.plans refl in
    record { done = (c.in_ok-replay_read.field-0, read.done); fault = tt; untouched = tt }
