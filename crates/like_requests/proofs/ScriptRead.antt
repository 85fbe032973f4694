-- What the reading of its rows says of a script file.
use Rattle.std.proofs.Common.{◌≡◌, ◌≤◌, zero, suc, ◌+◌, List, [], ◌∷◌, Vec, Global, Result, Ok, Err, IfErr, MatchResult, length, map, take, get_or, sym, ap, ◌∙◌, subst, arith, add-one, ◌⊎◌}
use Rattle.std.proofs.lemmas.List.{length-map, length-take-le}
use Rattle.std.proofs.lemmas.Option.{slice_get-get_or}
use Rattle.like_records.specs.declared.fault.RecordsFault.{RecordsFault}
use Rattle.like_records.specs.declared.fault.RecordsFault.TheVariants as records
use Rattle.like_records.specs.Rows.{Behind, EndsReading, Excuses, FailsSome, IsFirstFailed, IsHeadless, MadeOf, PassAll, Record}
use Rattle.like_records.proofs.RowsRead.{among, only-failed, stopped}
use Rattle.like_requests.specs.ScriptFile.{AsksEntryRecord, IsScriptFault, IsScriptFile, fault_of, turned_of, entry_tests, script_header}
use Rattle.like_limits.specs.Limits.{max_entries}
use Rattle.like_requests.specs.declared.script.Turned.{Turned}
use Rattle.like_requests.specs.declared.script_file.ScriptFault.{ScriptFault}
use Rattle.like_requests.specs.declared.script_file.ScriptFault.TheVariants.{Read, Line, TooMany, Memory}

-- the file is stopped by a record, and not by its header
abbrev StopsAtRecord : ScriptFault → Type 0
StopsAtRecord (Line zero) = ⊥
StopsAtRecord fault = Unit {0}

at_record : (body : List Record) (fault : ScriptFault)
    → IsFirstFailed AsksEntryRecord entry_tests body fault
    → StopsAtRecord fault
at_record body fault h =
    among (AsksEntryRecord (take h.0 body) h.1) StopsAtRecord (entry_tests (h.0 + 1)) fault
    (subst (λ n. StopsAtRecord (Line n)) (sym (add-one h.0)) tt, (tt, tt)) h.4

-- a record that fails a test is why the file has no entries
stops_file : (rows : List Record) (fault : ScriptFault)
    → Behind script_header (λ body. IsFirstFailed AsksEntryRecord entry_tests body fault) rows
    → IsScriptFault rows fault
stops_file rows Read h = tt
stops_file rows Memory h = tt
stops_file rows (Line zero) h = absurd (at_record h.0 (Line zero) h.2)
stops_file rows (Line (suc row)) h = h
stops_file rows TooMany h = h

-- a record that could not be had says nothing of the file
excused : (rows : List Record) (why : RecordsFault) → IsScriptFault rows (fault_of why)
excused rows records.Read = tt
excused rows records.Memory = tt

-- what was read of the file is what it says
pub script-read : (rows : List Record) (r : Result (Vec Turned Global) ScriptFault)
    → MatchResult r
    (λ entries. Behind script_header
    (λ body. PassAll AsksEntryRecord entry_tests body × (entries.items ≡ map turned_of body)) rows)
    (λ fault. Excuses fault_of fault ⊎ IsHeadless script_header (Line 0) rows fault
    ⊎ Behind script_header (λ body. IsFirstFailed AsksEntryRecord entry_tests body fault) rows)
    → MatchResult r (λ entries. IsScriptFile rows entries.items) (IsScriptFault rows)
script-read rows (Ok entries) made = (made.0, made.1, made.2.0, made.2.1)
script-read rows (Err fault) why =
    stopped (IsScriptFault rows) fault_of script_header (Line 0)
    (λ why. Behind script_header (λ body. IsFirstFailed AsksEntryRecord entry_tests body why) rows) rows fault
    (excused rows) (λ none. none) (stops_file rows fault) why

-- where all records passed, there are not too many
few-records : (body : List Record) → PassAll AsksEntryRecord entry_tests body → length body ≤ max_entries
few-records [] passed = omega arith
few-records (r ∷ body) passed =
    let last = get_or (r ∷ body) (length body) r in
    let earlier = (passed (length body) last (slice_get-get_or (r ∷ body) (length body) r (omega arith))).1.0 in
    omega (arith, earlier, length-take-le (length body) (r ∷ body) (omega arith))

-- the entries that records made are not too many
pub few-entries : (entries : List Turned)
    → MadeOf AsksEntryRecord entry_tests (λ body. entries ≡ map turned_of body)
    → length entries ≤ max_entries
few-entries entries made =
    let few = few-records made.0 made.1 in
    let size : length entries ≡ length made.0 =
    ap (λ (es : List Turned). length es) made.2 ∙ length-map made.0 turned_of in
    omega (arith, few, size)

-- of the faults of a script file, that of a failed read stands only where a read failed
pub script-only-failed : (Failed : Type 0) (r : Result (Vec Turned Global) ScriptFault)
    → IfErr r (λ fault. (fault ≡ Line 0) ⊎ EndsReading fault_of Failed (FailsSome AsksEntryRecord entry_tests) fault)
    → IfErr r (λ fault. fault ≡ Read → Failed)
script-only-failed Failed (Ok entries) why = tt
script-only-failed Failed (Err fault) why =
    only-failed fault_of Failed AsksEntryRecord entry_tests (Line 0) Read fault (λ e. cc e) (λ e. cc e)
    (λ row. ((λ e. cc e), ((λ e. cc e), tt))) why
