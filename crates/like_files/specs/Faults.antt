-- What the faults of the crates below become, and how a fault names a request file.
use Rattle.std.specs.Prelude.{◌-◌, ◌^◌, ℕ, min, ⊤}
use Rattle.like_promises.specs.Types.{RunFault, RunFault as run}
use Rattle.like_replies.specs.declared.write_fault.WriteFault.{WriteFault, WriteFault as write}
use Rattle.like_run.specs.declared.rounds.fault.ReplayFault.{ReplayFault, ReplayFault as replay}
use Rattle.like_files.specs.Types.{DriverFault, Memory, Settings, Start, Unfinished, Write}

-- the fault that a replay's fault becomes
abbrev pub fault_of_replay : ReplayFault → DriverFault
fault_of_replay (replay.Settings fault) = Settings fault
fault_of_replay replay.Unfinished = Unfinished
fault_of_replay replay.Memory = Memory

-- the fault that a run's fault becomes
abbrev pub fault_of_run : RunFault → DriverFault
fault_of_run (run.Settings fault) = Settings fault
fault_of_run run.Start = Start
fault_of_run run.Memory = Memory

-- the fault that a fault of writing becomes
abbrev pub fault_of : WriteFault → DriverFault
fault_of write.Write = Write
fault_of write.Memory = Memory

-- the number by which a fault names the request file at a place: at most 2 ^ 32 - 1
abbrev pub submitter_at : ℕ → ℕ
submitter_at place = min place (2 ^ 32 - 1)

-- the fault came before anything was written
abbrev pub IsBeforeOutput : DriverFault → Type 0
IsBeforeOutput Write = ⊥
IsBeforeOutput Memory = ⊥
IsBeforeOutput fault = ⊤
