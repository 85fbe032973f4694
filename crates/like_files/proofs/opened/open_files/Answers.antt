use Rattle.std.proofs.Common.{[], refl}
use Rattle.std.proofs.lemmas.Result.{err_from_is_err_and}
use Rattle.like_files.proofs.Named.{named-scripted, unopened-requests, unopened-script}
use Rattle.like_files.proofs.opened.open_files.Goals as goal

pub returns-in_default : goal.returns-in_default
returns-in_default g c =
    (refl, record { readers = []; opened = refl; tries = rw c.as_str.ensures.value at c.in_default.ensures })

pub returns-in_err-requests : goal.returns-in_err-requests
returns-in_err-requests g c =
    let p = err_from_is_err_and c.from_residual.result c.from_residual.ensures.1 in
    let (place, last, is, stops) = rw c.deref.ensures.value at c.in_err-requests.ensures in
    rw (p.1, p.2, is)
    (unopened-requests _ _ _ c.args.options.now c.in-Some.pages
    (rw c.as_str.ensures.value at c.in-Some.ensures) place last stops)

pub returns-in_default-open : goal.returns-in_default-open
returns-in_default-open g c =
    let rest = rw c.deref.ensures.value at c.in_ok-requests.ensures in
    unopened-script _ _ _ _ c.args.options.now c.in-Some.pages c.in_ok-requests.requests.items rest.0
    (rw c.as_str.ensures.value at c.in-Some.ensures) rest.1 c.in-Some-script.name c.in-Some-script.is
    (rw c.as_str-2.ensures.value at c.in_default-open.ensures)

pub returns : goal.returns
returns g c =
    let rest = rw c.deref.ensures.value at c.in_ok-requests.ensures in
    named-scripted _ _ _ _ c.args.options.now _ c.in-Some-script.name c.in-Some-open.script c.in-Some-script.is refl
    rest.0 (rw c.as_str.ensures.value at c.in-Some.ensures) rest.1
    (rw c.as_str-2.ensures.value at c.in-Some-open.ensures)
