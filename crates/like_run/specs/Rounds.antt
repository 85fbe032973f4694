-- A replay: which entries a crew can make, how it ends, and why there is no report.
use Rattle.std.specs.Prelude.{◌≡◌, ◌⊎◌, ◌<◌, List, length, All, ⊤}
use Rattle.std.specs.List.{AllZip}
use Rattle.like_requests.specs.Types.{Coordinator, OpenOne, Request, Setup, Turned, Worker}
use Rattle.like_requests.specs.{Script.IsFirstAway, Script.IsInRun, Setup.IsFirstBroken, Setup.IsWithinLimits}
use Rattle.like_ending.specs.Laws.{MayLast}
use Rattle.like_promises.specs.Types.{Report}
use Rattle.like_crew.specs.Crew.{CrewView, HasInbox, IsNewCrew}
use Rattle.like_crew.specs.{Progress.items_of, Server.IsLogOf, Server.ServerView}
use Rattle.like_run.specs.Script.{MakesMostRounds, Plays, PlaysToEnd, max_rounds}
use Rattle.like_run.specs.declared.rounds.fault.ReplayFault.TheVariants.{Memory, Settings, Unfinished}
use Rattle.like_run.specs.declared.rounds.fault.ReplayFault.{ReplayFault}

-- a crew with these servers can make an entry: its submitter has an inbox, or its worker exists
abbrev pub CanMake : List ServerView → Turned → Type 0
CanMake servers (OpenOne submitter) = HasInbox servers submitter
CanMake servers (Worker worker) = worker < length servers
CanMake servers Coordinator = ⊤

-- the settings and the lists are within their limits, and the script's submitters and workers exist
pub record CanReplayScript (setup : Setup) (plans : List (List Request)) (script : List Turned) : Type 0 where
  pub within : IsWithinLimits setup plans
  pub there : All (IsInRun setup.workers (length plans)) script

-- a report follows a script: a new crew played the script to its end, and there its servers left the logs of the report,
-- in the phase and after the choices of hot pages that the report tells
pub record ReportFollows (setup : Setup) (plans : List (List Request)) (script : List Turned) (report : Report) : Type 0
  where
    pub start : CrewView
    pub new : IsNewCrew setup plans start
    pub last : CrewView
    pub plays : PlaysToEnd script start last
    pub logs : AllZip IsLogOf last.servers report.logs.items
    pub phase_is : report.phases ≡ last.coordinator.phase
    pub hot : report.hot.items ≡ last.coordinator.choice.chosen

-- a crew has played a script and made the most rounds, and its run has not ended
pub record HasNotEnded (script : List Turned) (c : CrewView) : Type 0 where
  pub opened : CrewView
  pub plays : Plays script c opened
  pub last : CrewView
  pub most : MakesMostRounds opened last

-- a replay is unfinished: a new crew played the script and made the most rounds, and its run has not ended; and the run is
-- so long that it may last as many
pub record IsUnfinished (setup : Setup) (plans : List (List Request)) (script : List Turned) : Type 0 where
  pub start : CrewView
  pub new : IsNewCrew setup plans start
  pub not_ended : HasNotEnded script start
  pub long : MayLast setup.turns (items_of plans) setup.workers max_rounds

-- no fault of the settings, the lists or the script: memory ran out, or the replay is unfinished, and P holds
abbrev pub IsReplayFaultUnderWay : Type 0 → ReplayFault → Type 0
IsReplayFaultUnderWay P (Settings why) = ⊥
IsReplayFaultUnderWay P Memory = ⊤
IsReplayFaultUnderWay P Unfinished = P

-- the first limit that the settings and the lists break, or else the first entry of the script whose submitter or
-- worker doesn't exist; or else memory ran out, or the run did not end in the most rounds
abbrev pub IsReplayFault : Setup → List (List Request) → List Turned → ReplayFault → Type 0
IsReplayFault setup plans script (Settings why) =
    IsFirstBroken setup plans why ⊎ (IsWithinLimits setup plans × IsFirstAway setup.workers (length plans) script why)
IsReplayFault setup plans script Memory = CanReplayScript setup plans script
IsReplayFault setup plans script Unfinished =
    CanReplayScript setup plans script × IsUnfinished setup plans script
