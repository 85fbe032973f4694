-- The records of a file: its header, and the rows behind it, numbered from 1, up to the first that fails a test.
use Rattle.std.specs.Prelude.{◌≡◌, ◌≢◌, ◌⊎◌, ◌+◌, ℕ, List, [], ◌∷◌, length, take, slice_index_or, slice_get, Some}
use Rattle.std.specs.List.{AllByRecursion}
use Rattle.like_records.specs.First.{FailsFirst}
use Rattle.like_records.specs.declared.fault.RecordsFault.{RecordsFault, RecordsFault as fault}

-- a record: its fields, each in bytes
abbrev pub Record : Type 0
Record = List (List ℕ)

-- the field of a record at a place
abbrev pub field : Record → ℕ → List ℕ
field r i = slice_index_or r i []

-- no kind of file has more rows
abbrev pub max_rows : ℕ
max_rows = 1000000

-- the records are the header and, after it, a body for which this holds
abbrev pub Behind : Record → (List Record → Type 0) → List Record → Type 0
Behind header Holds rows = (body : List Record) × (rows ≡ header ∷ body) × Holds body

-- the records do not begin with the header, and the fault is the one that says so
abbrev pub IsHeadless : {T : Type 0} → Record → T → List Record → T → Type 0
IsHeadless header headless rows t = (t ≡ headless) × ((body : List Record) → rows ≢ header ∷ body)

-- the fault says that a record could not be read, and nothing about the file
abbrev pub Excuses : {T : Type 0} → (RecordsFault → T) → T → Type 0
Excuses fault_of t = (why : RecordsFault) × (t ≡ fault_of why)

-- why a reading ended: memory was refused, or a read failed, or a record failed a test
abbrev pub EndsReading : {T : Type 0} → (RecordsFault → T) → Type 0 → (T → Type 0) → T → Type 0
EndsReading fault_of Failed Fails t =
    (t ≡ fault_of fault.Memory) ⊎ ((t ≡ fault_of fault.Read) × Failed) ⊎ Fails t

-- Asks says what each test asks of a record, given the records before it; tests lists the tests of a row, in order
module _ {T : Type 0} (Asks : List Record → Record → T → Type 0) (tests : ℕ → List T) where
  -- every record passes every test of its row
  abbrev pub PassAll : List Record → Type 0
  PassAll body =
      (k : ℕ) (r : Record) → slice_get body k ≡ Some r → AllByRecursion (Asks (take k body) r) (tests (k + 1))

  -- t is the first test that fails of the first record that fails one
  abbrev pub IsFirstFailed : List Record → T → Type 0
  IsFirstFailed body t =
      (k : ℕ) × (r : Record) × (slice_get body k ≡ Some r) × PassAll (take k body)
      × FailsFirst (Asks (take k body) r) (tests (k + 1)) t

  -- t is the first test that some record fails
  abbrev pub FailsSome : T → Type 0
  FailsSome t = (done : List Record) × (r : Record) × FailsFirst (Asks done r) (tests (length done + 1)) t

  -- this holds for some records that each pass every test of their rows
  abbrev pub MadeOf : (List Record → Type 0) → Type 0
  MadeOf Holds = (body : List Record) × PassAll body × Holds body
