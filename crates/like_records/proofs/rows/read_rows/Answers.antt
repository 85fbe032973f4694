use Rattle.std.proofs.Common.{◌≡◌, ◌++◌, ◌∷◌, [], None, Some, inl, inr, ⊎_elim, arith}
use Rattle.std.proofs.lemmas.List.{length_push}
use Rattle.std.proofs.lemmas.Result.{err_from_is_err_and}
use Rattle.like_records.specs.Reading.{TakesRecord}
use Rattle.like_records.specs.declared.fault.RecordsFault.TheVariants as told
use Rattle.like_records.proofs.RowsRead.{ends-taken, reading_goes_on, reading_stops}
use Rattle.like_records.proofs.rows.read_rows.Goals as goal

pub returns-in_err-take-in-Ok-true-clause-rows : goal.returns-in_err-take-in-Ok-true-clause-rows
returns-in_err-take-in-Ok-true-clause-rows g c = λ body known.
    let so_far = c.loop-row.invariant in
    let next : TakesRecord c.loop-row.records c.read_next.new.self × (c.read_next.new.self.stopped ≡ None) =
    rw c.in-Ok-true.field-0-test at c.in-Ok-true.ensures.next in
    let p = err_from_is_err_and c.from_residual.result c.from_residual.ensures.1 in
    let stands = c.in_err-take-in-Ok-true.ensures.row so_far.done so_far.made so_far.count in
    rw (p.1, p.2) (⊎_elim (λ same. inl (told.Memory, same))
    (λ fails. inr
    (reading_stops g.K.FileKind.asks g.K.FileKind.tests c.args.records.now.left c.loop-row.records
    c.read_next.new.self so_far.done so_far.read next.0 _
    (rw so_far.count at fails) body known)) stands)

pub returns-in_err-take-in-Ok-true-clause-ends : goal.returns-in_err-take-in-Ok-true-clause-ends
returns-in_err-take-in-Ok-true-clause-ends g c =
    let so_far = c.loop-row.invariant in
    let p = err_from_is_err_and c.from_residual.result c.from_residual.ensures.1 in
    rw (p.1, p.2)
    (ends-taken g.K.FileKind.fault_of
    (c.read_next.new.self.stopped ≡ Some told.Read) g.K.FileKind.asks g.K.FileKind.tests so_far.done
    c.read_next.new.self.fields _ _ so_far.count
    (c.in_err-take-in-Ok-true.ensures.row so_far.done so_far.made so_far.count))

pub loop-row-preserved : goal.loop-row-preserved
loop-row-preserved g c =
    let so_far = c.loop-row.invariant in
    let next : TakesRecord c.loop-row.records c.read_next.new.self × (c.read_next.new.self.stopped ≡ None) =
    rw c.in-Ok-true.field-0-test at c.in-Ok-true.ensures.next in
    let passed = c.in_ok-take-in-Ok-true.ensures.row so_far.done so_far.made so_far.count in
    record {
      done = so_far.done ++ c.read_next.new.self.fields ∷ [];
      count = omega (arith, so_far.count, length_push so_far.done c.read_next.new.self.fields);
      room = omega (arith, c.in_ok-take-in-Ok-true.ensures.few);
      made = passed.1;
      read = reading_goes_on g.K.FileKind.asks g.K.FileKind.tests c.args.records.now.left c.loop-row.records
          c.read_next.new.self so_far.done so_far.read next.0
          (rw so_far.count at passed.0);
    }
