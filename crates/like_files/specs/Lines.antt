-- The statuses and the lines of faults.
use Rattle.std.specs.Prelude.{ℕ, List, [], ◌++◌, Option, None, Some, MatchOption, codes, slice_get, string_bytes}
use Rattle.std.specs.{Io.KnownBytes.Appends, Option.option_map_or}
use Rattle.like_requests.specs.Types.{PagesFault as pages, RequestsFault as requests, ScriptFault as script}
use Rattle.like_requests.specs.Types.{SettingsFault as settings}
use Rattle.like_command.specs.declared.options.Options.{Options}
use Rattle.like_command.specs.Fault as words
use Rattle.like_files.specs.Types.{DriverFault, Memory, Pages, Requests, Script, Settings, Start, Unfinished, Write}

-- the line of an output that failed
abbrev pub write_line : List ℕ
write_line = codes "likes: standard output: write failed\n"

-- the status of a fault: 2 of the settings, 3 of a file or the output, 4 of memory or a start, 5 of a replay that does not
-- end; and its line, if that names no file
abbrev pub told : DriverFault → ℕ × Option (List ℕ)
told (Pages pages.Memory) = (4, Some words.memory_line)
told (Pages fault) = (3, None)
told (Requests submitter requests.Memory) = (4, Some words.memory_line)
told (Requests submitter fault) = (3, None)
told (Script script.Memory) = (4, Some words.memory_line)
told (Script fault) = (3, None)
told (Settings (settings.Script at)) = (3, None)
told (Settings settings.Submitters) = (2, Some (codes "likes: between 1 and 64 request files\n"))
told (Settings fault) = (2, Some (codes "likes: settings\n"))
told Start = (4, Some (codes "likes: a thread could not be started\n"))
told Unfinished = (5, Some (codes "likes: not finished after 1000000 rounds\n"))
told Write = (3, Some write_line)
told Memory = (4, Some words.memory_line)

-- the name of the file at fault: empty where the options have none
abbrev pub file_of : Options → DriverFault → List ℕ
file_of options (Pages fault) = string_bytes options.pages
file_of options (Requests submitter fault) = option_map_or string_bytes (slice_get options.requests.items submitter) []
file_of options (Script fault) = option_map_or string_bytes options.script []
file_of options (Settings (settings.Script at)) = option_map_or string_bytes options.script []
file_of options fault = []

-- the line of a fault was written: its own, or one that names the file at fault
abbrev pub ShowsLine : Options → DriverFault → Option (List ℕ) → Option (List ℕ) → Type 0
ShowsLine options fault old new =
    MatchOption (told fault).1
    ((text : List ℕ) × Appends old new
    (codes "likes: " ++ (file_of options fault ++ (codes ": " ++ (text ++ codes "\n")))))
    (Appends old new)
