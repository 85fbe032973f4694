use Rattle.std.proofs.Common.{IfOk, Vec, Global, Result, Ok, Err, ◌≡◌, ◌≤◌, length, map}
use Rattle.like_records.specs.Rows.{MadeOf}
use Rattle.like_records.specs.Reading.{ReadFailed}
use Rattle.like_requests.specs.ScriptFile.{AsksEntryRecord, turned_of, entry_tests}
use Rattle.like_limits.specs.Limits.{max_entries}
use Rattle.like_requests.specs.declared.script.Turned.{Turned}
use Rattle.like_requests.specs.declared.script_file.ScriptFault.{ScriptFault}
use Rattle.like_requests.proofs.ScriptRead.{few-entries, script-only-failed, script-read}
use Rattle.like_requests.proofs.script_file.read_script.Goals as goal

-- where entries were read, they are not too many
few : (r : Result (Vec Turned Global) ScriptFault)
    → IfOk r (λ entries. MadeOf AsksEntryRecord entry_tests (λ body. entries.items ≡ map turned_of body))
    → IfOk r (λ entries. length entries.items ≤ max_entries)
few (Ok entries) made = few-entries entries.items made
few (Err fault) made = tt

pub returns : goal.returns
returns g c = record {
  few = few c.read_file.result c.read_file.ensures.made;
  file = λ rows known. script-read rows c.read_file.result (c.read_file.ensures.file rows known);
  read = script-only-failed (ReadFailed c.args.reader) c.read_file.result c.read_file.ensures.ends;
}
