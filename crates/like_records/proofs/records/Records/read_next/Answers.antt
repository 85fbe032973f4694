use Rattle.std.proofs.Common.{refl}
use Rattle.csv.specs.Records.{fields_of}
use Rattle.like_records.specs.Reading.{GivesEach}
use Rattle.like_records.proofs.ReaderSteps.{none-taken, record-taken}
use Rattle.like_records.proofs.records.Records.read_next.Goals as goal

pub returns-in-Ok-true-clause-next : goal.returns-in-Ok-true-clause-next
returns-in-Ok-true-clause-next g c =
    let gives : GivesEach c.self.inside.reader = rw c.in-Open.is at c.self.invariant in
    let read = rw c.in-Ok-true.field-0-test at (c.in-Ok-true.ensures.reads gives.trim gives.ready) in (
      (λ rows left. rw c.in-Open.is
          (record-taken g.R.Read.remaining c.self.inside.reader c.read_byte_record.new.self
          (fields_of c.read_byte_record.new.row) gives read rows (rw (← c.self.view_is, c.in-Open.is) at left))),
      rw c.in-Open.is refl,
    )

pub returns-in-Ok-false-clause-next : goal.returns-in-Ok-false-clause-next
returns-in-Ok-false-clause-next g c =
    let gives : GivesEach c.self.inside.reader = rw c.in-Open.is at c.self.invariant in
    let read = rw c.in-Ok-false.field-0-test at (c.in-Ok-false.ensures.reads gives.trim gives.ready) in (
      (λ rows left. none-taken g.R.Read.remaining c.self.inside.reader c.read_byte_record.new.self
          (fields_of c.read_byte_record.new.row) gives read rows (rw (← c.self.view_is, c.in-Open.is) at left)),
      rw c.clear.ensures.fields refl,
    )
