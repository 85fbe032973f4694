-- Which file a fault names whose read failed.
use Rattle.std.proofs.Common.{◌≡◌, ℕ, ◌<◌, List, length, map, get_or, Option, None, Some, Result, Ok, Err, IfErr, Vec, Global, refl, sym, ◌∙◌, subst, inl, inr}
use Rattle.std.proofs.lemmas.List.{length-map}
use Rattle.std.proofs.lemmas.Option.{slice_get_read}
use Rattle.std.proofs.lemmas.Slice.Zip.{AllZip-long, AllZip-right}
use Rattle.std.specs.List.{AllZip, slice_get}
use Rattle.std.specs.Prelude.{IsSomeAnd, MatchOption, MatchResult, ◌⊎◌}
use Rattle.like_records.specs.Reading.{ReadFailed}
use Rattle.like_requests.specs.Pages.{Page}
use Rattle.like_requests.specs.declared.request.Request.{Request}
use Rattle.like_requests.specs.declared.requests_file.RequestsFault.{RequestsFault}
use Rattle.like_requests.specs.declared.requests_file.RequestsFault.TheVariants.{Memory, Read}
use Rattle.like_requests.specs.declared.setup.Setup.{Setup}
use Rattle.like_requests.specs.declared.script.Turned.{Turned}
use Rattle.like_files.proofs.Planned.{requests_of}
use Rattle.like_files.specs.FailedReads.{TellsRead}
use Rattle.like_files.specs.Inputs.{GivesPlan, GivesPlans}
use Rattle.like_files.specs.Plans.{Answer, IsFirstStop, Stops}
use Rattle.like_files.specs.Replay.{IsReplayListsFault}
use Rattle.like_files.specs.Run.{IsRunListsFault}
use Rattle.like_files.specs.declared.fault.DriverFault.{DriverFault}
use Rattle.like_files.specs.declared.fault.DriverFault.TheVariants as driver

-- where the answer of a file's reader is a failed read, a read of it failed
abbrev pub TellsOwn : {R : Type 0} → R → Answer → Type 0
TellsOwn reader answer = IfErr answer (λ fault. fault ≡ Read → ReadFailed reader)

-- what is told of a fault of the request files, whatever the other files are
abbrev pub TellsPlanRead : {R : Type 0} → List R → DriverFault → Type 0
TellsPlanRead {R = Reader} readers fault = (file : Reader) (script : Option Reader) → TellsRead file readers script fault

-- the file at this place gave no plan
pub plan-told : {R : Type 0} (readers : List R) (place : ℕ) (reader : R) (answer : Answer) (fault : DriverFault)
    → slice_get readers place ≡ Some reader
    → TellsOwn reader answer
    → Stops answer place fault
    → TellsPlanRead readers fault
plan-told readers place reader answer fault at own stops = λ file script.
    subst (TellsRead file readers script) (sym stops.named)
    (λ is. (place, refl, rw at (by_answer stops.why stops.stood is)))
  where
    by_answer : (why : RequestsFault) → (answer ≡ Err why) ⊎ (why ≡ Memory) → why ≡ Read → ReadFailed reader
    by_answer why (inl stood) is = (subst (TellsOwn reader) stood own) is
    by_answer why (inr memory) is = cc

-- the next file gave no plan
pub next-told : {R : Type 0} (source_of : R → Option (List ℕ)) (pages : List Page) (readers done : List R) (reader : R)
    (answer : Answer) (plans : List (Vec Request Global)) (fault : DriverFault)
    → length done < length readers
    → reader ≡ get_or readers (length done) reader
    → GivesPlans pages (map source_of done) (map requests_of plans)
    → TellsOwn reader answer → Stops answer (length plans) fault → TellsPlanRead readers fault
next-told source_of pages readers done reader answer plans fault there is given own stops =
    let size : length plans ≡ length done =
    sym (length-map plans requests_of)
    ∙ (AllZip-long (GivesPlan pages) (map source_of done) (map requests_of plans) given
    ∙ length-map done source_of) in
    plan-told readers (length done) reader answer fault
    (slice_get_read readers (length readers) (length done) reader refl there is) own
    (subst (λ n. Stops answer n fault) size stops)

-- of files that are read at once, the first that gave none is told
told-in_parallel : {R : Type 0} (readers : List R) (answers : List Answer) (fault : DriverFault)
    → AllZip TellsOwn readers answers
    → IsFirstStop answers fault
    → TellsPlanRead readers fault
told-in_parallel {R = Reader} readers answers fault own first =
    by_answer (slice_get answers first.place) first.stops (AllZip-right TellsOwn readers answers own first.place)
  where
    by_reader : (o : Option Reader) (answer : Answer) → slice_get readers first.place ≡ o
        → Stops answer first.place fault → IsSomeAnd o (λ reader. TellsOwn reader answer) → TellsPlanRead readers fault
    by_reader None answer at stops own_it = absurd own_it
    by_reader (Some reader) answer at stops own_it = plan-told readers first.place reader answer fault at own_it stops

    by_answer : (o : Option Answer) → IsSomeAnd o (λ answer. Stops answer first.place fault)
        → MatchOption o (Unit {0})
        (λ answer. IsSomeAnd (slice_get readers first.place) (λ reader. TellsOwn reader answer))
        → TellsPlanRead readers fault
    by_answer None stops own_it = absurd stops
    by_answer (Some answer) stops own_it = by_reader (slice_get readers first.place) answer refl stops own_it

pub gathered-told : {R : Type 0} (readers : List R) (answers : List Answer)
    (result : Result (Vec (Vec Request Global) Global) DriverFault)
    → AllZip TellsOwn readers answers
    → MatchResult result (λ plans. answers ≡ map Ok plans.items) (IsFirstStop answers)
    → (file : R) (script : Option R) → IfErr result (TellsRead file readers script)
gathered-told readers answers (Ok plans) own gathered file script = tt
gathered-told readers answers (Err fault) own gathered file script =
    told-in_parallel readers answers fault own gathered file script

module _ {R : Type 0} (pages : R) (requests : List R) where
  -- what the files give is run or replayed with no fault of a file
  pub run-told : {A : Type 0} (script : Option R) (setup : Setup) (plans : List (List Request))
      (r : Result A DriverFault) → IfErr r (IsRunListsFault setup plans) → IfErr r (TellsRead pages requests script)
  run-told script setup plans (Ok done) refused = tt
  run-told script setup plans (Err (driver.Pages fault)) refused = absurd refused
  run-told script setup plans (Err (driver.Requests submitter fault)) refused = absurd refused
  run-told script setup plans (Err (driver.Script fault)) refused = absurd refused
  run-told script setup plans (Err (driver.Settings fault)) refused = tt
  run-told script setup plans (Err driver.Start) refused = tt
  run-told script setup plans (Err driver.Unfinished) refused = tt
  run-told script setup plans (Err driver.Write) refused = tt
  run-told script setup plans (Err driver.Memory) refused = tt

  pub replay-told : {A : Type 0} (script : Option R) (setup : Setup) (plans : List (List Request))
      (entries : List Turned) (r : Result A DriverFault) → IfErr r (IsReplayListsFault setup plans entries)
      → IfErr r (TellsRead pages requests script)
  replay-told script setup plans entries (Ok done) refused = tt
  replay-told script setup plans entries (Err (driver.Pages fault)) refused = absurd refused
  replay-told script setup plans entries (Err (driver.Requests submitter fault)) refused = absurd refused
  replay-told script setup plans entries (Err (driver.Script fault)) refused = absurd refused
  replay-told script setup plans entries (Err (driver.Settings fault)) refused = tt
  replay-told script setup plans entries (Err driver.Start) refused = tt
  replay-told script setup plans entries (Err driver.Unfinished) refused = tt
  replay-told script setup plans entries (Err driver.Write) refused = tt
  replay-told script setup plans entries (Err driver.Memory) refused = tt
