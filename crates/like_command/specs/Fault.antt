-- The status and the line of words that ask for nothing.
use Rattle.std.specs.Prelude.{ℕ, List, codes, string_bytes}
use Rattle.like_command.specs.declared.fault.ParseFault.{ParseFault, TheVariants.Memory, TheVariants.Usage}

-- the line of memory that ran out
abbrev pub memory_line : List ℕ
memory_line = codes "likes: out of memory\n"

-- the status of a wrong command line, or of memory that ran out, and what is written on standard error
abbrev pub told : ParseFault → ℕ × List ℕ
told (Usage text) = (2, string_bytes text)
told Memory = (4, memory_line)
