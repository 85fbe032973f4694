-- A run on threads: what the threads of its workers end with.
use Rattle.std.specs.Prelude.{◌≡◌, ◌+◌, ◌≤◌, ℕ, List, length, ⊤, false}
use Rattle.like_promises.specs.Types.{Memory, RunFault, Settings, Start}
use Rattle.like_crew.specs.Ended.{HasLeft, IsEnded, IsSeatOf}
use Rattle.like_crew.specs.{Crew.CrewView, Server.ServerView, declared.ended.Ended.Ended}
use Rattle.like_run.specs.declared.threads.worker.Served.{Served, TheVariants.Left, TheVariants.Stopped}

-- what a thread that began with this server ends with: what the server left; or the token that says that no thread goes
-- on, and the seat with which it began, unused
abbrev pub Keeps : ℕ → ServerView → Served → Type 0
Keeps start first (Left log seat) = HasLeft first log seat
Keeps start first (Stopped token seat) = (token.of ≡ start) × (token.value ≡ false) × IsSeatOf first seat

-- a crew went on until its run had ended, and left this; its servers and these submitters' ends were no more than the
-- threads that could be started
pub record HasEndedOn {E : Type 0} (starts : ℕ) (c : CrewView) (ends : List E) (e : Ended) : Type 0 where
  pub ended : IsEnded (λ crew. crew ≡ c) e
  pub enough : length c.servers + length ends ≤ starts

-- no fault of the settings or the lists
abbrev pub IsRunFaultUnderWay : RunFault → Type 0
IsRunFaultUnderWay (Settings why) = ⊥
IsRunFaultUnderWay Memory = ⊤
IsRunFaultUnderWay Start = ⊤
