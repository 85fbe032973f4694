use Rattle.std.proofs.Common.{◌≡◌, ◌∙◌, ap, Some}
use Rattle.like_records.specs.Reading.{ReadFailed, Reading}
use Rattle.like_records.specs.declared.fault.RecordsFault.TheVariants as told
use Rattle.like_records.specs.Rows.{FailsSome}
use Rattle.like_records.proofs.RowsRead.{ends-shown, shows-failed}
use Rattle.like_records.proofs.rows.read_file.Goals as goal

pub returns-clause-file : goal.returns-clause-file
returns-clause-file g c =
    λ rows known. c.read_records.ensures.file rows (ap (λ (r : Reading). r.left) c.new-records.ensures ∙ known)

pub returns-clause-ends : goal.returns-clause-ends
returns-clause-ends g c =
    ends-shown g.K.FileKind.fault_of (c.read_records.new.records.stopped ≡ Some told.Read) (ReadFailed c.args.reader)
    (FailsSome g.K.FileKind.asks g.K.FileKind.tests) c.args.headless
    c.read_records.result (shows-failed c.args.reader c.read_records.new.records) c.read_records.ensures.ends
