use Rattle.std.proofs.Common.{refl, map, inl}
use Rattle.std.proofs.lemmas.Result.{err_from_is_err_and}
use Rattle.like_files.specs.Inputs.{inputs_in}
use Rattle.like_files.proofs.Ended.{lists-refused}
use Rattle.like_files.proofs.replay.replay_opened.Goals as goal

pub returns-in_err-pages-clause-replayed : goal.returns-in_err-pages-clause-replayed
returns-in_err-pages-clause-replayed g c =
    let p = err_from_is_err_and c.from_residual.result c.from_residual.ensures.1 in
    rw (p.1, p.2) (record { done = tt; fault = inl c.in_err-pages.ensures.file; untouched = λ before. refl })

pub returns-in_err-pages-clause-read : goal.returns-in_err-pages-clause-read
returns-in_err-pages-clause-read g c =
    let p = err_from_is_err_and c.from_residual.result c.from_residual.ensures.1 in
    rw (p.1, p.2) c.in_err-pages.ensures.read

pub returns-in_err-plans-clause-replayed : goal.returns-in_err-plans-clause-replayed
returns-in_err-plans-clause-replayed g c =
    let p = err_from_is_err_and c.from_residual-in_err-plans.result c.from_residual-in_err-plans.ensures.1 in
    rw (p.1, p.2) (record {
      done = tt;
      fault = inl (lists-refused (g.R.Read.remaining c.args.files.pages)
          (map g.R.Read.remaining c.args.files.requests.items) c.in_ok-pages.pages c.in_err-plans.field-0.0
          c.in_ok-pages.ensures.file c.in_err-plans.ensures.plans);
      untouched = λ before. refl;
    })

pub returns-in_err-plans-clause-read : goal.returns-in_err-plans-clause-read
returns-in_err-plans-clause-read g c =
    let p = err_from_is_err_and c.from_residual-in_err-plans.result c.from_residual-in_err-plans.ensures.1 in
    rw (p.1, p.2)
    (c.in_err-plans.ensures.read c.args.files.pages c.args.files.script)

pub returns-clause-replayed : goal.returns-clause-replayed
returns-clause-replayed g c =
    c.replay_read.ensures.replayed (inputs_in g.R.Read.remaining c.args.files)
    c.in_ok-pages.ensures.file c.in_ok-plans.ensures.plans refl

pub returns-clause-read : goal.returns-clause-read
returns-clause-read g c = c.replay_read.ensures.read c.args.files.pages c.args.files.requests.items
