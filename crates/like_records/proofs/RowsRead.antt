-- How far the reading of a file's rows has come.
use Rattle.std.proofs.Common.{◌≡◌, ◌≢◌, ◌⊎◌, Result, Ok, Err, IfErr, ℕ, zero, suc, ◌+◌, ◌<◌, List, [], ◌∷◌, ◌++◌, length, slice_get, Option, Some, refl, sym, ap, ◌∙◌, subst, arith, inl, inr, append_assoc}
use Rattle.std.specs.List.{AllByRecursion}
use Rattle.std.proofs.lemmas.List.{take-append-le, take_at, length_push}
use Rattle.std.proofs.lemmas.Option.{slice_get_within, same_Some, get_or_from_slice_get}
use Rattle.std.proofs.lemmas.Bool.{cases_lt}
use Rattle.like_records.specs.First.{FailsFirst}
use Rattle.like_records.specs.Reading.{ReadFailed, Reading, TakesRecord}
use Rattle.like_records.specs.Rows.{EndsReading, Excuses, FailsSome, IsFirstFailed, IsHeadless, PassAll, Record, field}
use Rattle.like_records.specs.declared.fault.RecordsFault.{RecordsFault}
use Rattle.like_records.specs.declared.fault.RecordsFault.TheVariants as told

-- a field of a record is what a read of it gave
pub field_at : (r : Record) (i : ℕ) (text : List ℕ) → slice_get r i ≡ Some text → field r i ≡ text
field_at r i text = get_or_from_slice_get r i text _

-- an element of the front of two lists
slice_get-front : {X : Type 0} (xs ys : List X) (k : ℕ) → k < length xs → slice_get (xs ++ ys) k ≡ slice_get xs k
slice_get-front [] ys k h = absurd (omega arith)
slice_get-front (x ∷ xs) ys zero h = refl
slice_get-front (x ∷ xs) ys (suc k) h = slice_get-front xs ys k (omega arith)

-- the element right behind the front
slice_get-behind : {X : Type 0} (xs ys : List X) (y : X) → slice_get (xs ++ y ∷ ys) (length xs) ≡ Some y
slice_get-behind [] ys y = refl
slice_get-behind (x ∷ xs) ys y = slice_get-behind xs ys y

-- what fails first is one of the tests
pub among : {T : Type 0} (Holds : T → Type 0) (Q : T → Type 0) (tests : List T) (t : T)
    → AllByRecursion Q tests
    → FailsFirst Holds tests t
    → Q t
among Holds Q [] t all h = absurd h
among Holds Q (x ∷ xs) t all (inl here) = subst Q (sym here.0) all.0
among Holds Q (x ∷ xs) t all (inr later) = among Holds Q xs t all.1 later.1

module _ {T : Type 0} (Asks : List Record → Record → T → Type 0) (tests : ℕ → List T) where
  -- the records `done` were read and passed; of those that were there before, the others are left
  pub record HasRead (before left : Option (List Record)) (done : List Record) : Type 0 where
    pub passed : PassAll Asks tests done
    pub whole : (body : List Record) → before ≡ Some body
        → (rest : List Record) × (left ≡ Some rest) × (body ≡ done ++ rest)

  PassAll-push : (done : List Record) (r : Record) → PassAll Asks tests done
      → AllByRecursion (Asks done r) (tests (length done + 1)) → PassAll Asks tests (done ++ r ∷ [])
  PassAll-push done r passed good k x e = elim (cases_lt k (length done)) [
    | inl before ↦ rw (take-append-le k done (r ∷ []) (omega arith))
        (passed k x (sym (slice_get-front done (r ∷ []) k before) ∙ e))
    | inr after ↦
        let last : k ≡ length done = omega (arith, slice_get_within (done ++ r ∷ []) k x e, length_push done r) in
        let same : r ≡ x = same_Some _ _ (sym (slice_get-behind done [] r) ∙ rw last at e) in
        rw (last, take_at done (r ∷ []) (length done) refl, ← same) good
  ]

  module _ (before : Option (List Record)) (old new : Reading) (done : List Record) (h : HasRead before old.left done)
      (takes : TakesRecord old new) where
    -- the record that was read is the one behind those before it
    next_is : (body : List Record) → before ≡ Some body
        → (rest : List Record) × (new.left ≡ Some rest) × (body ≡ done ++ new.fields ∷ rest)
    next_is body known =
        let (all, left_is, whole) = h.whole body known in
        let (rest, first, more) = takes all left_is in
        (rest, more, whole ∙ ap (λ rows. done ++ rows) first)

    -- it passed
    pub reading_goes_on : AllByRecursion (Asks done new.fields) (tests (length done + 1))
        → HasRead before new.left (done ++ new.fields ∷ [])
    reading_goes_on good = record {
      passed = PassAll-push done new.fields h.passed good;
      whole = λ body known. let (rest, more, whole) = next_is body known in
          (rest, more, rw (append_assoc done (new.fields ∷ []) rest) whole);
    }

    -- it failed a test
    pub reading_stops : (t : T) → FailsFirst (Asks done new.fields) (tests (length done + 1)) t → (body : List Record)
        → before ≡ Some body → IsFirstFailed Asks tests body t
    reading_stops t fails body known =
        let (rest, more, whole) = next_is body known in
        rw whole (
          length done,
          new.fields,
          slice_get-behind done rest new.fields,
          rw (take_at done (new.fields ∷ rest) (length done) refl) h.passed,
          rw (take_at done (new.fields ∷ rest) (length done) refl) fails,
        )

-- what each of the three ways to stop says of a fault, it says of the fault that stopped a file
pub stopped : {T : Type 0} (Says : T → Type 0) (fault_of : RecordsFault → T) (header : Record) (headless : T)
    (Failed : T → Type 0) (rows : List Record) (fault : T)
    → ((why : RecordsFault) → Says (fault_of why))
    → (((body : List Record) → rows ≢ header ∷ body) → Says headless)
    → (Failed fault → Says fault)
    → Excuses fault_of fault ⊎ IsHeadless header headless rows fault ⊎ Failed fault → Says fault
stopped Says fault_of header headless Failed rows fault excused none failed (inl (why, same)) =
    subst Says (sym same) (excused why)
stopped Says fault_of header headless Failed rows fault excused none failed (inr (inl (same, away))) =
    subst Says (sym same) (none away)
stopped Says fault_of header headless Failed rows fault excused none failed (inr (inr fails)) = failed fails

-- a reading that stopped shows that a read of its reader failed
pub shows-failed : {R : Type 0} (reader : R) (end : Reading) → end.stopped ≡ Some told.Read → ReadFailed reader
unfolding ReadFailed
shows-failed reader end stopped = (end, stopped)

module _ {T : Type 0} (fault_of : RecordsFault → T) where
  -- a record could not be had
  pub ends-told : (Failed : Type 0) (Fails : T → Type 0) (why : RecordsFault) → (why ≡ told.Read → Failed)
      → EndsReading fault_of Failed Fails (fault_of why)
  ends-told Failed Fails told.Read failed = inr (inl (refl, failed refl))
  ends-told Failed Fails told.Memory failed = inl refl

  -- a row could not be taken
  pub ends-taken : (Failed : Type 0) (Asks : List Record → Record → T → Type 0) (tests : ℕ → List T)
      (done : List Record) (r : Record) (row : ℕ) (t : T) → row ≡ length done + 1
      → (t ≡ fault_of told.Memory) ⊎ FailsFirst (Asks done r) (tests row) t
      → EndsReading fault_of Failed (FailsSome Asks tests) t
  ends-taken Failed Asks tests done r row t at (inl same) = inl same
  ends-taken Failed Asks tests done r row t at (inr fails) =
      inr (inr (done, r, subst (λ n. FailsFirst (Asks done r) (tests n) t) at fails))

  -- why the reading of the rows ended is why that of the records did
  pub ends-file : {M : Type 0} (Failed : Type 0) (Fails : T → Type 0) (headless : T) (r : Result M T)
      → IfErr r (EndsReading fault_of Failed Fails)
      → IfErr r (λ fault. (fault ≡ headless) ⊎ EndsReading fault_of Failed Fails fault)
  ends-file Failed Fails headless (Ok made) ends = tt
  ends-file Failed Fails headless (Err fault) ends = inr ends

  -- and it shows that a read of the reader failed
  pub ends-shown : {M : Type 0} (Failed Shown : Type 0) (Fails : T → Type 0) (headless : T) (r : Result M T)
      → (Failed → Shown)
      → IfErr r (λ fault. (fault ≡ headless) ⊎ EndsReading fault_of Failed Fails fault)
      → IfErr r (λ fault. (fault ≡ headless) ⊎ EndsReading fault_of Shown Fails fault)
  ends-shown Failed Shown Fails headless (Ok made) shown ends = tt
  ends-shown Failed Shown Fails headless (Err fault) shown (inl header) = inl header
  ends-shown Failed Shown Fails headless (Err fault) shown (inr (inl memory)) = inr (inl memory)
  ends-shown Failed Shown Fails headless (Err fault) shown (inr (inr (inl (same, failed)))) =
      inr (inr (inl (same, shown failed)))
  ends-shown Failed Shown Fails headless (Err fault) shown (inr (inr (inr fails))) = inr (inr (inr fails))

  -- a fault that is neither the header's nor memory's nor a test's stands only where a read failed
  pub only-failed : (Failed : Type 0) (Asks : List Record → Record → T → Type 0) (tests : ℕ → List T)
      (headless read fault : T) → headless ≢ read → fault_of told.Memory ≢ read
      → ((row : ℕ) → AllByRecursion (λ t. t ≢ read) (tests row))
      → (fault ≡ headless) ⊎ EndsReading fault_of Failed (FailsSome Asks tests) fault
      → fault ≡ read
      → Failed
  only-failed Failed Asks tests headless read fault header memory none (inl same) is = absurd (header (sym same ∙ is))
  only-failed Failed Asks tests headless read fault header memory none (inr (inl same)) is =
      absurd (memory (sym same ∙ is))
  only-failed Failed Asks tests headless read fault header memory none (inr (inr (inl (same, failed)))) is = failed
  only-failed Failed Asks tests headless read fault header memory none (inr (inr (inr (done, r, fails)))) is =
      absurd (among (Asks done r) (λ t. t ≢ read) (tests (length done + 1)) fault (none (length done + 1)) fails is)
