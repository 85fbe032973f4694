-- How far a file's records were read, and what the next record does to that.
use Rattle.std.specs.Prelude.{◌≡◌, ◌+◌, ℕ, Bool, true, false, List, [], ◌∷◌, length, Option, Some, None, option_map, Result, Ok, Err}
use Rattle.std.specs.Option.{ForSome}
use Rattle.csv.specs.Reading.{Ready, default_config, has_failed, is_flexible, reader_config, reader_trim, records}
use Rattle.csv.specs.Reading.{records_from, strip_bom}
use Rattle.csv.specs.declared.{parser.State.State, reader.Reader.Reader, reader.Trim.Trim as trim}
use Rattle.like_records.specs.declared.fault.RecordsFault.{RecordsFault, RecordsFault as fault}
use Rattle.like_records.specs.declared.records.Progress.{Progress, Progress as progress}

-- the records still to be read, where the bytes to be read are known, the fields of the present record, and the fault with
-- which CSV's reader has stopped, if it has
pub record Reading : Type 0 where
  pub left : Option (List (List (List ℕ)))
  pub fields : List (List ℕ)
  pub stopped : Option RecordsFault

-- a read of this reader failed, by which a reading of its records stopped. Only an explicit unfolding sees what shows it, so a
-- fault that no reading told has nothing to show
unfoldable pub ReadFailed : {R : Type 0} → R → Type 0
ReadFailed reader = (end : Reading) × (end.stopped ≡ Some fault.Read)

-- all the records of a text: CSV's, with no byte order mark
abbrev pub records_of : List ℕ → List (List (List ℕ))
records_of text = records default_config (strip_bom text)

-- the next record was read: where the records left are known, it is the first of them, and the others are left
abbrev pub TakesRecord : Reading → Reading → Type 0
TakesRecord old new =
    ForSome old.left (λ rows. (rest : List (List (List ℕ))) × (rows ≡ new.fields ∷ rest) × (new.left ≡ Some rest))

-- what a reading becomes by the next record: the record, or the end, where no known record was left, or a fault
abbrev pub NextRecord : Reading → Result Bool RecordsFault → Reading → Type 0
NextRecord old (Ok true) new = TakesRecord old new × (new.stopped ≡ None)
NextRecord old (Ok false) new =
    ForSome old.left (λ rows. rows ≡ []) × (new ≡ record { left = Some []; fields = []; stopped = None })
NextRecord old (Err why) new = new ≡ record { left = None; fields = []; stopped = Some why }

-- the records of a text from a state of CSV's machine
abbrev pub records_from_state : State → List ℕ → List (List (List ℕ))
records_from_state state text = records_from default_config (length text + 1) state text

-- the records left, by how far the reading is, the state of CSV's machine and the bytes to be read
abbrev pub records_left : Progress → State → Option (List ℕ) → Option (List (List (List ℕ)))
records_left progress.Open state unread = option_map (records_from_state state) unread
records_left progress.Ended state unread = Some []
records_left (progress.Failed why) state unread = None

-- the fault with which a reading has stopped, by how far it is
abbrev pub stopped_by : Progress → Option RecordsFault
stopped_by (progress.Failed why) = Some why
stopped_by progress = None

-- a reader that hands out each record as it is in the text, the first one too, with any number of fields
pub record GivesEach {R : Type 0} (reader : Reader R) : Type 0 where
  pub config : reader_config reader ≡ default_config
  pub trim : reader_trim reader ≡ trim.None
  pub flexible : is_flexible reader ≡ true
  pub ready : Ready reader
  pub goes_on : has_failed reader ≡ false

-- what holds of the reader while there may be more records, and of it and the present record after them
abbrev pub IsKept : {R : Type 0} → Progress → Reader R → List (List ℕ) → Type 0
IsKept progress.Open reader fields = GivesEach reader
IsKept progress.Ended reader fields = (fields ≡ []) × (has_failed reader ≡ false)
IsKept (progress.Failed why) reader fields = (fields ≡ []) × (has_failed reader ≡ true)
