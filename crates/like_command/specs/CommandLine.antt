-- The command line, as what clap reads of it.
use Rattle.std.specs.Prelude.{ℕ, true, false, List, [], ◌∷◌, ◌++◌, codes, pos, Some}
use Rattle.clap.specs.Words.{App, Rule, Shape, Text, new_rule}
use Rattle.clap.specs.declared.builder.action.ArgAction.TheVariants.{Append, Set, SetTrue}
use Rattle.clap.specs.{Lexer.usize_max, Simple.new_shape, declared.builder.value_parser.ValueParser.ValueParser as vp}
use Rattle.like_limits.specs.Limits.{max_hot, max_stash, max_turns, max_users, max_workers}

-- an option for a text
abbrev pub text_rule : Text → Rule
text_rule name = record (new_rule name) { long = Some name; value_names = 1; action = Some Set }

-- an option for a whole number within bounds, which may be left out
abbrev pub bounded_rule : Text → ℕ → ℕ → Rule
bounded_rule name least most = record (text_rule name) { parser = Some (vp.Signed (pos least) (pos most)) }

-- an option for a whole number within bounds, with a letter as a short name and a default
abbrev pub number_rule : Text → ℕ → Text → ℕ → ℕ → Rule
number_rule name letter default least most =
    record (bounded_rule name least most) { short = Some letter; defaults = default ∷ [] }

-- an option without a value
abbrev pub flag_rule : Text → Rule
flag_rule name = record (new_rule name) { long = Some name; action = Some SetTrue }

-- a text that is required
abbrev pub required_rule : Text → Rule
required_rule name = record (new_rule name) { value_names = 1; required = true; action = Some Set }

-- one text or more that are required
abbrev pub required_list_rule : Text → Rule
required_list_rule name = record (required_rule name) {
  action = Some Append;
  range = Some (record { start_inclusive = 1; end_inclusive = usize_max });
}

-- the options of runs and replays with a number and a default, which are -w, -u, -s and -t too
abbrev pub number_rules : List Rule
number_rules = number_rule (codes "workers") 119 (codes "4") 1 max_workers
    ∷ number_rule (codes "users") 117 (codes "1000") 1 max_users
    ∷ number_rule (codes "stash") 115 (codes "256") 1 max_stash
    ∷ number_rule (codes "turns") 116 (codes "1000") 0 max_turns
    ∷ []

-- all options of runs and replays
abbrev pub option_rules : List Rule
option_rules = number_rules
    ++ bounded_rule (codes "hot") 1 max_hot ∷ flag_rule (codes "places") ∷ flag_rule (codes "totals")
    ∷ flag_rule (codes "summary") ∷ flag_rule (codes "progress") ∷ []

-- the names of the files of a run
abbrev pub files_rules : List Rule
files_rules = required_rule (codes "pages") ∷ required_list_rule (codes "requests") ∷ []

abbrev pub run_command : Shape
run_command = record (new_shape (codes "run")) { rules = option_rules ++ files_rules }

abbrev pub replay_command : Shape
replay_command = record (new_shape (codes "replay")) {
  rules = option_rules ++ text_rule (codes "script") ∷ files_rules;
}

-- the command line of the program: one of its subcommands is required, and the words have no name of the program. It
-- has a version.
abbrev pub likes_app : App
likes_app = record {
  top = record (new_shape (codes "likes")) {
    is_leaf = false;
    no_binary_name = true;
    disable_help_subcommand = true;
    subcommand_required = true;
    has_version = true;
  };
  subs = run_command ∷ replay_command ∷ [];
}
