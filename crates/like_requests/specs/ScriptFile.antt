-- What a script file says: the records that CSV gives of it, and the entries or the fault.
use Rattle.std.specs.Prelude.{◌≡◌, ◌≢◌, ◌⊎◌, ◌<◌, ℕ, zero, List, [], ◌∷◌, length, map, bytes_eq, codes, if◌then◌else◌, ⊤}
use Rattle.like_limits.specs.Limits.{max_entries, max_index}
use Rattle.like_records.specs.Decimal.{IsDecimal, decimal_value}
use Rattle.like_records.specs.Rows.{Behind, IsFirstFailed, PassAll, Record, field}
use Rattle.like_records.specs.declared.fault.RecordsFault.{RecordsFault, RecordsFault as records}
use Rattle.like_requests.specs.Types.{Coordinator, OpenOne, ScriptFault, ScriptFault as fault, Turned, Worker}

abbrev pub script_header : Record
script_header = codes "turn" ∷ codes "index" ∷ []

-- a text writes the number of a submitter or a worker
abbrev pub IsIndex : List ℕ → Type 0
IsIndex text = IsDecimal 10 max_index text

-- two fields name an entry: `open` and a submitter, `worker` and a worker, or `coordinator` and 0
abbrev pub Names : List ℕ → List ℕ → Type 0
Names turn index =
    (((turn ≡ codes "open") ⊎ (turn ≡ codes "worker")) × IsIndex index)
    ⊎ ((turn ≡ codes "coordinator") × (index ≡ codes "0"))

-- the entry that they name
abbrev pub named : List ℕ → List ℕ → Turned
named turn index =
    if bytes_eq turn (codes "open") then OpenOne (decimal_value index)
    else if bytes_eq turn (codes "worker") then Worker (decimal_value index)
    else Coordinator

-- a record makes an entry
abbrev pub IsEntry : Record → Type 0
IsEntry r = (length r ≡ 2) × Names (field r 0) (field r 1)

-- the entry that it makes
abbrev pub turned_of : Record → Turned
turned_of r = named (field r 0) (field r 1)

-- what the test with this fault asks of a record after this many others
abbrev pub AsksEntry : ℕ → Record → ScriptFault → Type 0
AsksEntry earlier r (fault.Line row) = IsEntry r
AsksEntry earlier r fault.TooMany = earlier < max_entries
AsksEntry earlier r why = ⊤

-- what the test with this fault asks of a record after these earlier ones
abbrev pub AsksEntryRecord : List Record → Record → ScriptFault → Type 0
AsksEntryRecord earlier r why = AsksEntry (length earlier) r why

-- the tests of the record at a row, in order
abbrev pub entry_tests : ℕ → List ScriptFault
entry_tests row = fault.Line row ∷ fault.TooMany ∷ []

-- the fault when a record could not be read
abbrev pub fault_of : RecordsFault → ScriptFault
fault_of records.Read = fault.Read
fault_of records.Memory = fault.Memory

-- why a file with these records has no entries
abbrev pub IsScriptFault : List Record → ScriptFault → Type 0
IsScriptFault rows fault.Read = ⊤
IsScriptFault rows fault.Memory = ⊤
IsScriptFault rows (fault.Line zero) = (body : List Record) → rows ≢ script_header ∷ body
IsScriptFault rows why = Behind script_header (λ body. IsFirstFailed AsksEntryRecord entry_tests body why) rows

-- the entries of a file with these records
abbrev pub IsScriptFile : List Record → List Turned → Type 0
IsScriptFile rows entries =
    (body : List Record) × (rows ≡ script_header ∷ body)
    × PassAll AsksEntryRecord entry_tests body × (entries ≡ map turned_of body)
