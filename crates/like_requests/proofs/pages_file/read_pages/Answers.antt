use Rattle.std.proofs.lemmas.Result.{err_from_is_err_and}
use Rattle.like_records.specs.Reading.{ReadFailed}
use Rattle.like_requests.proofs.PagesRead.{empty-not-read, pages-only-failed, pages-read, pages-stopped}
use Rattle.like_requests.proofs.pages_file.read_pages.Goals as goal

pub returns-in_err-entries-clause-file : goal.returns-in_err-entries-clause-file
returns-in_err-entries-clause-file g c = λ rows known.
    let p = err_from_is_err_and c.from_residual.result c.from_residual.ensures.1 in
    rw (p.1, p.2) (pages-stopped rows _ (c.in_err-entries.ensures.file rows known))

pub returns-in_err-entries-clause-read : goal.returns-in_err-entries-clause-read
returns-in_err-entries-clause-read g c =
    let p = err_from_is_err_and c.from_residual.result c.from_residual.ensures.1 in
    rw (p.1, p.2)
    (pages-only-failed (ReadFailed c.args.reader) c.in_err-entries.field-0.0 c.in_err-entries.ensures.ends)

pub returns-clause-file : goal.returns-clause-file
returns-clause-file g c =
    λ rows known. pages-read rows _ _ _ (c.in_ok-entries.ensures.file rows known) c.of.ensures c.ok_or.ensures.value

pub returns-clause-read : goal.returns-clause-read
returns-clause-read g c = empty-not-read (ReadFailed c.args.reader) _ _ c.ok_or.ensures.value
