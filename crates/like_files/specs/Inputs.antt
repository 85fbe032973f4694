-- What the files of a run or a replay give, as far as their bytes are known.
use Rattle.std.specs.Prelude.{◌≡◌, ℕ, List, [], map, take, slice_get, Option, Some, None, IsSomeAnd, option_map}
use Rattle.std.specs.{Io.KnownBytes.Appends, List.AllZip}
use Rattle.like_records.specs.{Reading.records_of, Rows.Record}
use Rattle.like_requests.specs.Types.{Request, RequestsFault, ScriptFault, Setup, Turned}
use Rattle.like_requests.specs.{Pages.Page, PagesFile.IsPagesFault, PagesFile.IsPagesFile, RequestsFile.IsRequestsFault}
use Rattle.like_requests.specs.{RequestsFile.IsRequestsFile, ScriptFile.IsScriptFault, ScriptFile.IsScriptFile}
use Rattle.like_promises.specs.{Report.IsReportOf, Types.Report}
use Rattle.like_replies.specs.{Notices.notice_of, Output.HasBegun, declared.notice.Notice.Notice}
use Rattle.like_replies.specs.{PlaceRows.text_of, declared.extent.Extent.Extent}
use Rattle.like_command.specs.declared.options.Options.{Options}
use Rattle.like_files.specs.{Faults.submitter_at, Types.DriverFault, Types.DriverFault as driver, Types.Opened}

-- the bytes of the pages file and of each request file, where they are known, and those of the script file where there is one
pub record Inputs : Type 0 where
  pub pages : Option (List ℕ)
  pub requests : List (Option (List ℕ))
  pub script : Option (Option (List ℕ))

-- what the readers of opened files have left to give
abbrev pub inputs_in : {R : Type 0} → (R → Option (List ℕ)) → Opened R → Inputs
inputs_in left files = record {
  pages = left files.pages;
  requests = map left files.requests.items;
  script = option_map left files.script;
}

-- the settings that options ask for with these pages
abbrev pub setup_of : Options → List Page → Setup
setup_of o pages = record {
  workers = o.workers;
  users = o.users;
  stash = o.stash;
  turns = o.turns;
  hot = o.hot;
  pages = pages;
}

-- how much of a report options ask for
abbrev pub extent_of : Options → Extent
extent_of o = record { totals = o.totals; places = o.places }

-- a fact of the records of a file, where its bytes are known
abbrev pub OfRecords : Option (List ℕ) → (List Record → Type 0) → Type 0
OfRecords source P = (rows : List Record) → option_map records_of source ≡ Some rows → P rows

-- a request file gives this plan
abbrev pub GivesPlan : List Page → Option (List ℕ) → List Request → Type 0
GivesPlan pages source plan = OfRecords source (λ rows. IsRequestsFile pages rows plan)

-- a request file is refused with this fault
abbrev pub RefusesPlan : Option (List ℕ) → RequestsFault → Type 0
RefusesPlan source fault = OfRecords source (λ rows. IsRequestsFault rows fault)

-- a script file gives these entries; where there is none, there are none
abbrev pub GivesScript : Option (Option (List ℕ)) → List Turned → Type 0
GivesScript None entries = entries ≡ []
GivesScript (Some source) entries = OfRecords source (λ rows. IsScriptFile rows entries)

-- a script file is refused with this fault
abbrev pub RefusesScript : Option (Option (List ℕ)) → ScriptFault → Type 0
RefusesScript None fault = ⊥
RefusesScript (Some source) fault = OfRecords source (λ rows. IsScriptFault rows fault)

-- the request files give these plans
abbrev pub GivesPlans : List Page → List (Option (List ℕ)) → List (List Request) → Type 0
GivesPlans pages sources plans = AllZip (GivesPlan pages) sources plans

-- why the request files give no plans: the first that is refused
abbrev pub RefusesPlans : List Page → List (Option (List ℕ)) → DriverFault → Type 0
RefusesPlans pages sources (driver.Requests submitter fault) =
    (place : ℕ) × (submitter ≡ submitter_at place)
    × ((plans : List (List Request)) × GivesPlans pages (take place sources) plans)
    × IsSomeAnd (slice_get sources place) (λ source. RefusesPlan source fault)
RefusesPlans pages sources fault = ⊥

-- why a pages file and request files give no values: the first fault of the pages file, or else of the request files
abbrev pub RefusesLists : Option (List ℕ) → List (Option (List ℕ)) → DriverFault → Type 0
RefusesLists file files (driver.Pages fault) = OfRecords file (λ rows. IsPagesFault rows fault)
RefusesLists file files fault =
    (pages : List Page) × OfRecords file (λ rows. IsPagesFile rows pages) × RefusesPlans pages files fault

-- this holds of the settings that options ask for with the pages of the files, and of their plans
pub record OfFiles (options : Options) (inputs : Inputs) (Holds : Setup → List (List Request) → Type 0) : Type 0 where
  pub pages : List Page
  pub plans : List (List Request)
  pub pages_given : OfRecords inputs.pages (λ rows. IsPagesFile rows pages)
  pub plans_given : GivesPlans pages inputs.requests plans
  pub holds : Holds (setup_of options pages) plans

-- the text of a right report was written, with right places if they are asked for, else with none; its notice is its
-- summary if one is asked for, else its refused requests
pub record WritesReport (options : Options) (setup : Setup) (plans : List (List Request))
    (old new : Option (List ℕ)) (notice : Option Notice) : Type 0 where
  pub report : Report
  pub right : IsReportOf setup plans options.places report
  pub written : Appends old new (text_of (extent_of options) setup.pages report)
  pub noticed : notice ≡ notice_of options.summary report

-- a front of the text of a right report was written
pub record BeginsReport (options : Options) (setup : Setup) (plans : List (List Request))
    (old new : Option (List ℕ)) : Type 0 where
  pub report : Report
  pub right : IsReportOf setup plans options.places report
  pub begun : HasBegun old new (text_of (extent_of options) setup.pages report)

-- a front of a report of these files was written
abbrev pub BeginsReportOf : Options → Inputs → Option (List ℕ) → Option (List ℕ) → Type 0
BeginsReportOf options inputs old new = OfFiles options inputs (λ setup plans. BeginsReport options setup plans old new)
