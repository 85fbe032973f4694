-- Why a run gives no report.
use Rattle.std.specs.Prelude.{List}
use Rattle.like_requests.specs.{Setup.IsFirstBroken, Setup.IsWithinLimits, Types.Request, Types.Setup}
use Rattle.like_promises.specs.Types.{Memory, RunFault, Settings, Start}

-- the first limit that the settings and the lists break; or else memory ran out, or a thread could not be started
abbrev pub IsRunFault : Setup → List (List Request) → RunFault → Type 0
IsRunFault setup plans (Settings why) = IsFirstBroken setup plans why
IsRunFault setup plans Memory = IsWithinLimits setup plans
IsRunFault setup plans Start = IsWithinLimits setup plans
