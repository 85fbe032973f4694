use Rattle.std.proofs.Common.{List, Vec, Global}
use Rattle.like_records.specs.Rows.{Record}
use Rattle.like_requests.specs.ScriptFile.{IsScriptFault, IsScriptFile}
use Rattle.like_requests.specs.declared.script.Turned.{Turned}
use Rattle.like_files.proofs.Planned.{of_records}
use Rattle.like_files.proofs.replay.read_turns.Goals as goal

pub returns-in-Some-clause-given : goal.returns-in-Some-clause-given
returns-in-Some-clause-given g c =
    rw c.in-Some.is
    (of_records (g.R.Read.remaining c.in-Some.reader)
    (λ (rows : List Record) (entries : Vec Turned Global). IsScriptFile rows entries.items) IsScriptFault
    c.read_script.result c.read_script.ensures.file)

pub returns-in-Some-clause-read : goal.returns-in-Some-clause-read
returns-in-Some-clause-read g c = rw c.in-Some.is c.read_script.ensures.read
