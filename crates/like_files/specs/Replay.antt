-- What a replay of files has done, or why it has not.
use Rattle.std.specs.Prelude.{◌⊎◌, ℕ, List, Option}
use Rattle.like_requests.specs.Types.{Request, Setup, Turned}
use Rattle.like_replies.specs.declared.notice.Notice.{Notice}
use Rattle.like_run.specs.declared.rounds.fault.ReplayFault.{ReplayFault as why}
use Rattle.like_run.specs.Rounds as replay
use Rattle.like_command.specs.declared.options.Options.{Options}
use Rattle.like_files.specs.Inputs.{GivesScript, Inputs, OfFiles, RefusesLists, RefusesScript, WritesReport}
use Rattle.like_files.specs.Types.{DriverFault, Memory, Script, Settings, Unfinished, Write}

-- these values were replayed to the end, and the report was written, with this notice
pub record HasReplayedLists (options : Options) (setup : Setup) (plans : List (List Request)) (script : List Turned)
    (old new : Option (List ℕ)) (notice : Option Notice) : Type 0 where
  pub fits : replay.CanReplayScript setup plans script
  pub reported : WritesReport options setup plans old new notice
  pub follows : replay.ReportFollows setup plans script reported.report

-- the values of the files were replayed to the end, and the report was written, with this notice
abbrev pub HasReplayed : Options → Inputs → Option (List ℕ) → Option (List ℕ) → Option Notice → Type 0
HasReplayed options inputs old new notice =
    OfFiles options inputs (λ setup plans. (script : List Turned) × GivesScript inputs.script script
    × HasReplayedLists options setup plans script old new notice)

-- why a replay of these values ended: a fault of the settings, the replay or the output; memory ran out in the replay
-- or in its report
abbrev pub IsReplayListsFault : Setup → List (List Request) → List Turned → DriverFault → Type 0
IsReplayListsFault setup plans script (Settings fault) = replay.IsReplayFault setup plans script (why.Settings fault)
IsReplayListsFault setup plans script Unfinished = replay.IsReplayFault setup plans script why.Unfinished
IsReplayListsFault setup plans script Write = replay.CanReplayScript setup plans script
IsReplayListsFault setup plans script Memory = replay.CanReplayScript setup plans script
IsReplayListsFault setup plans script fault = ⊥

-- why a replay of these values with a script file ended: that was refused, or the replay of its entries
abbrev pub IsReplayScriptFault : Option (Option (List ℕ)) → Setup → List (List Request) → DriverFault → Type 0
IsReplayScriptFault source setup plans (Script fault) = RefusesScript source fault
IsReplayScriptFault source setup plans fault =
    (script : List Turned) × GivesScript source script × IsReplayListsFault setup plans script fault

-- why a replay ended: the first fault of the pages file, the request files, the script file, the settings, the replay and the
-- output; memory ran out in the replay or in its report
abbrev pub IsReplayFilesFault : Options → Inputs → DriverFault → Type 0
IsReplayFilesFault options inputs fault =
    RefusesLists inputs.pages inputs.requests fault
    ⊎ OfFiles options inputs (λ setup plans. IsReplayScriptFault inputs.script setup plans fault)
