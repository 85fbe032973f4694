-- Which scripts fit a run.
use Rattle.std.specs.Prelude.{◌≡◌, ℕ, ◌<◌, List, ⊤}
use Rattle.like_records.specs.First.{IsFirstBad}
use Rattle.like_requests.specs.Types.{Coordinator, OpenOne, Script, SettingsFault, Turned, Worker}

-- the submitter or the worker of an entry exists, in a run of this many workers and submitters
abbrev pub IsInRun : ℕ → ℕ → Turned → Type 0
IsInRun workers submitters (OpenOne submitter) = submitter < submitters
IsInRun workers submitters (Worker worker) = worker < workers
IsInRun workers submitters Coordinator = ⊤

-- the fault names the first entry whose submitter or worker doesn't exist
abbrev pub IsFirstAway : ℕ → ℕ → List Turned → SettingsFault → Type 0
IsFirstAway workers submitters script fault =
    (at : ℕ) × (fault ≡ Script at) × IsFirstBad (IsInRun workers submitters) script at
