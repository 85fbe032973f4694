-- The name that means standard input, and options that give it to more than one file.
use Rattle.std.specs.Prelude.{ℕ, Bool, false, if◌then◌else◌, List, [], ◌∷◌, ◌++◌, map, option_map, codes, string_bytes, option_to_list, bytes_eq}
use Rattle.std.specs.List.{list_any}
use Rattle.like_command.specs.declared.options.Options.{Options}

-- a name means standard input
abbrev pub is_input : List ℕ → Bool
is_input name = bytes_eq name (codes "-")

-- two of the names or more mean standard input
abbrev pub names_twice : List (List ℕ) → Bool
names_twice [] = false
names_twice (name ∷ rest) = if is_input name then list_any is_input rest else names_twice rest

-- the names of all files, in the order in which they are opened
abbrev pub names_of : Options → List (List ℕ)
names_of options =
    string_bytes options.pages ∷ map string_bytes options.requests.items
    ++ option_to_list (option_map string_bytes options.script)
