-- The status and the line of a fault of the program.
use Rattle.std.specs.Prelude.{ℕ, List, Option, Result, Ok, Err, codes}
use Rattle.std.specs.Io.KnownBytes.{Appends}
use Rattle.like_command.specs.declared.options.Options.{Options}
use Rattle.like_command.specs.Fault as words
use Rattle.like_files.specs.{Lines.ShowsLine, Lines.told, Lines.write_line, Types.DriverFault}
use Rattle.like_program.specs.declared.fault.ProgramFault.{ProgramFault, ProgramFault as program}

-- the status of a fault of the program
abbrev pub program_status : ProgramFault → ℕ
program_status (program.Words fault) = (words.told fault).0
program_status (program.Files options fault) = (told fault).0
program_status program.Output = 3
program_status program.Inputs = 2
program_status program.Memory = 4

-- what a run or a replay with these options ends in, as the program's end
abbrev pub of_files : {A : Type 0} → Options → Result A DriverFault → Result A ProgramFault
of_files options (Ok done) = Ok done
of_files options (Err fault) = Err (program.Files options fault)

-- the line of a fault of the program was written
abbrev pub ShowsProgramLine : ProgramFault → Option (List ℕ) → Option (List ℕ) → Type 0
ShowsProgramLine (program.Words fault) old new = Appends old new (words.told fault).1
ShowsProgramLine (program.Files options fault) old new = ShowsLine options fault old new
ShowsProgramLine program.Output old new = Appends old new write_line
ShowsProgramLine program.Inputs old new =
    Appends old new (codes "likes: only one file can be -, which is standard input\n")
ShowsProgramLine program.Memory old new = Appends old new words.memory_line
