-- Which file the fault of a failed read names, and how request files are read.
use Rattle.std.specs.Prelude.{◌≡◌, ℕ, List, map, slice_get, Option, IsSomeAnd, Result, IfErr, MatchResult, Vec, ⊤}
use Rattle.std.specs.declared.alloc.Global.{Global}
use Rattle.like_records.specs.Reading.{ReadFailed}
use Rattle.like_requests.specs.{Pages.Page, Types.PagesFault as pages_fault, Types.Request}
use Rattle.like_requests.specs.{Types.RequestsFault as requests_fault, Types.ScriptFault as script_fault}
use Rattle.like_files.specs.{Faults.submitter_at, Inputs.GivesPlans, Inputs.RefusesPlans}
use Rattle.like_files.specs.Types.{DriverFault, Pages, Requests, Script}

-- if the fault says that a read of a file failed, one failed of the file that it names
abbrev pub TellsRead : {R : Type 0} → R → List R → Option R → DriverFault → Type 0
TellsRead pages requests script (Pages fault) = fault ≡ pages_fault.Read → ReadFailed pages
TellsRead pages requests script (Requests submitter fault) =
    fault ≡ requests_fault.Read
    → (place : ℕ) × (submitter ≡ submitter_at place)
    × IsSomeAnd (slice_get requests place) (λ reader. ReadFailed reader)
TellsRead pages requests script (Script fault) =
    fault ≡ script_fault.Read → IsSomeAnd script (λ reader. ReadFailed reader)
TellsRead pages requests script fault = ⊤

-- the answer of a reading of request files: their plans, or why they give none; and if a read failed, the fault tells whose
pub record ReadsRequests {R : Type 0} (left : R → Option (List ℕ)) (pages : List Page) (readers : List R)
    (answer : Result (Vec (Vec Request Global) Global) DriverFault) : Type 0 where
  pub plans :
      MatchResult answer (λ plans. GivesPlans pages (map left readers) (map (λ plan. plan.items) plans.items))
      (RefusesPlans pages (map left readers))
  pub read : (file : R) (script : Option R) → IfErr answer (TellsRead file readers script)
