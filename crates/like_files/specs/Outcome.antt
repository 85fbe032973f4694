-- What a run or a replay of files comes to.
use Rattle.std.specs.Prelude.{◌≡◌, ◌⊎◌, ℕ, List, Option, Result, IfErr, IfOk, MatchResult, OnOk}
use Rattle.like_files.specs.{Faults.IsBeforeOutput, Types.DriverFault, Types.Write}

-- the answer of a call that writes to an output: either this was done, or there was this fault; and unless it is one of the
-- output or of memory, the output is as before
pub record IsOutcome {W A : Type 0} (Done : Option (List ℕ) → Option (List ℕ) → A → Type 0) (Refused : DriverFault → Type 0)
    (held : W → Option (List ℕ)) (old new : W) (answer : Result A DriverFault) : Type 0 where
  pub done : IfOk answer (Done (held old) (held new))
  pub fault : IfErr answer Refused
  pub untouched : IfErr answer (λ fault. IsBeforeOutput fault → new ≡ old)

-- an output is as before, or this was begun
abbrev pub LeavesFront : {W : Type 0} → (Option (List ℕ) → Option (List ℕ) → Type 0) → (W → Option (List ℕ)) → W → W
    → Type 0
LeavesFront Begun held old new = (new ≡ old) ⊎ Begun (held old) (held new)

-- the fault is `Write` just if a write or a flush of the output failed
abbrev pub TellsWrite : {W : Type 0} → (W → Type 0) → W → W → DriverFault → Type 0
TellsWrite Failed old new Write = Failed new
TellsWrite Failed old new fault = Failed new → Failed old

-- what a call leaves of its output: on success all is flushed; and whether a write or a flush failed is told
pub record LeavesOutput {W A : Type 0} (Flushed Failed : W → Type 0) (old new : W)
    (answer : Result A DriverFault) : Type 0 where
  pub flushed : OnOk answer (Flushed new)
  pub told : MatchResult answer (λ _. Failed new → Failed old) (TellsWrite Failed old new)
