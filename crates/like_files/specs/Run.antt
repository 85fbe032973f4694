-- What a run of files has done, or why it has not.
use Rattle.std.specs.Prelude.{◌⊎◌, ℕ, List, Option}
use Rattle.like_requests.specs.{Setup.IsWithinLimits, Types.Request, Types.Setup}
use Rattle.like_promises.specs.Types.{RunFault as why}
use Rattle.like_promises.specs.RunFault as run
use Rattle.like_replies.specs.declared.notice.Notice.{Notice}
use Rattle.like_command.specs.declared.options.Options.{Options}
use Rattle.like_files.specs.Inputs.{Inputs, OfFiles, RefusesLists, WritesReport}
use Rattle.like_files.specs.Types.{DriverFault, Memory, Settings, Start, Write}

-- the run of these values was made, and its report was written, with this notice
pub record HasRunLists (options : Options) (setup : Setup) (plans : List (List Request))
    (old new : Option (List ℕ)) (notice : Option Notice) : Type 0 where
  pub within : IsWithinLimits setup plans
  pub reported : WritesReport options setup plans old new notice

-- the run that the files ask for was made, and its report was written, with this notice
abbrev pub HasRun : Options → Inputs → Option (List ℕ) → Option (List ℕ) → Option Notice → Type 0
HasRun options inputs old new notice =
    OfFiles options inputs (λ setup plans. HasRunLists options setup plans old new notice)

-- why a run of these values ended: a fault of the settings, the run or the output; memory ran out in the run or in its
-- report
abbrev pub IsRunListsFault : Setup → List (List Request) → DriverFault → Type 0
IsRunListsFault setup plans (Settings fault) = run.IsRunFault setup plans (why.Settings fault)
IsRunListsFault setup plans Start = run.IsRunFault setup plans why.Start
IsRunListsFault setup plans Write = IsWithinLimits setup plans
IsRunListsFault setup plans Memory = IsWithinLimits setup plans
IsRunListsFault setup plans fault = ⊥

-- why a run ended: the first fault of the pages file, the request files, the settings, the run and the output; memory
-- ran out in the run or in its report
abbrev pub IsRunFilesFault : Options → Inputs → DriverFault → Type 0
IsRunFilesFault options inputs fault =
    RefusesLists inputs.pages inputs.requests fault
    ⊎ OfFiles options inputs (λ setup plans. IsRunListsFault setup plans fault)
