-- What words ask for.
use Rattle.std.specs.Prelude.{◌≡◌, ◌≢◌, ◌≤◌, ◌<◌, ◌⊎◌, ◌++◌, ℕ, Bool, if◌then◌else◌, List, [], ◌∷◌, length, map, codes, pos, Option, None, Some, option_map, IsSomeAnd, String, string_bytes, take, MatchOption, ⊤, bytes_eq}
use Rattle.std.specs.Str.Parse.{IsNumeral, digits_value, without_leading_plus}
use Rattle.std.specs.declared.alloc.Global.{Global}
use Rattle.clap.specs.Values.{IsSignedIn, bool_text}
use Rattle.clap.specs.Words.{Row, Text, all_of, fault_of, first_of, one_of, subcommand_of}
use Rattle.clap.specs.declared.error.kind.ErrorKind.TheVariants.{DisplayHelp, DisplayVersion}
use Rattle.clap.specs.{Kinds.IsAmong, Kinds.Kinds, Lexer.without_minus, declared.error.kind.ErrorKind.ErrorKind}
use Rattle.like_limits.specs.Limits.{max_hot, max_stash, max_turns, max_users, max_workers}
use Rattle.like_command.specs.CommandLine.{likes_app}
use Rattle.like_command.specs.declared.asked.Asked.TheVariants.{Help, Replay, Run}
use Rattle.like_command.specs.declared.fault.ParseFault.TheVariants.{Memory, Usage}
use Rattle.like_command.specs.declared.{asked.Asked.Asked, fault.ParseFault.ParseFault, options.Options.Options}

-- a text writes a number: decimal digits, with a plus before them or not
abbrev pub Writes : Text → ℕ → Type 0
Writes text n = IsNumeral 10 (without_leading_plus text) × (n ≡ digits_value 10 (without_leading_plus text))

-- the number that an option's value, or its default, writes, within the bounds; none if it has no value
abbrev pub IsNumber : List Row → Text → ℕ → ℕ → Option ℕ → Type 0
IsNumber rows name least most o = MatchOption o (one_of name rows ≡ None)
    (λ n. IsSomeAnd (one_of name rows) (λ text. Writes text n) × (least ≤ n) × (n ≤ most))

-- an option has a value that its bounds let through
abbrev pub HasNumber : List Row → Text → ℕ → ℕ → Type 0
HasNumber rows name least most =
    (text : Text) × (one_of name rows ≡ Some (without_minus text)) × IsSignedIn (pos least) (pos most) text

-- an option has no value, or one that its bounds let through
abbrev pub MayHaveNumber : List Row → Text → ℕ → ℕ → Type 0
MayHaveNumber rows name least most = (one_of name rows ≡ None) ⊎ HasNumber rows name least most

-- a flag has the value `true` where it was given, and else `false`
abbrev pub IsFlag : List Row → Text → Bool → Type 0
IsFlag rows name b = one_of name rows ≡ Some (bool_text b)

-- a flag has one of these values
abbrev pub HasFlag : List Row → Text → Type 0
HasFlag rows name = (b : Bool) × IsFlag rows name b

-- clap found what a run and a replay need
pub record HasAll (rows : List Row) : Type 0 where
  pub workers : HasNumber rows (codes "workers") 1 max_workers
  pub users : HasNumber rows (codes "users") 1 max_users
  pub stash : HasNumber rows (codes "stash") 1 max_stash
  pub turns : HasNumber rows (codes "turns") 0 max_turns
  pub hot : MayHaveNumber rows (codes "hot") 1 max_hot
  pub places : HasFlag rows (codes "places")
  pub totals : HasFlag rows (codes "totals")
  pub summary : HasFlag rows (codes "summary")
  pub progress : HasFlag rows (codes "progress")
  pub pages : (name : Text) × (first_of (codes "pages") rows ≡ Some name)
  pub requests : (names : List Text) × (all_of (codes "requests") rows ≡ Some names) × (0 < length names)

-- options have the values that clap found for a run or a replay, the script aside
pub record HasValues (rows : List Row) (o : Options) : Type 0 where
  pub workers : IsNumber rows (codes "workers") 1 max_workers (Some o.workers)
  pub users : IsNumber rows (codes "users") 1 max_users (Some o.users)
  pub stash : IsNumber rows (codes "stash") 1 max_stash (Some o.stash)
  pub turns : IsNumber rows (codes "turns") 0 max_turns (Some o.turns)
  pub hot : IsNumber rows (codes "hot") 1 max_hot o.hot
  pub places : IsFlag rows (codes "places") o.places
  pub totals : IsFlag rows (codes "totals") o.totals
  pub summary : IsFlag rows (codes "summary") o.summary
  pub progress : IsFlag rows (codes "progress") o.progress
  pub pages : first_of (codes "pages") rows ≡ Some (string_bytes o.pages)
  pub requests : all_of (codes "requests") rows ≡ Some (map string_bytes o.requests.items)
  pub some_requests : 0 < length o.requests.items

-- what was entered is one of the subcommands, with these rows
abbrev pub IsEntered : Option (Text × List Row) → List Row → Type 0
IsEntered entered rows = (entered ≡ Some (codes "run", rows)) ⊎ (entered ≡ Some (codes "replay", rows))

-- what was entered is this subcommand, and gives these options, with a script of which this holds
pub record Gives (name : Text) (Scripts : List Row → Option (String Global) → Type 0)
    (entered : Option (Text × List Row)) (o : Options) : Type 0 where
  pub rows : List Row
  pub matched : entered ≡ Some (name, rows)
  pub values : HasValues rows o
  pub script : Scripts rows o.script

-- what was entered asks for that
abbrev pub MeansAsked : Option (Text × List Row) → Asked → Type 0
MeansAsked entered (Run options) = Gives (codes "run") (λ _ script. script ≡ None) entered options
MeansAsked entered (Replay options) =
    Gives (codes "replay") (λ rows script. first_of (codes "script") rows ≡ option_map string_bytes script)
    entered options
MeansAsked entered (Help text) = ⊥

-- the words after the program's name, each by its bytes
abbrev pub Words : Type 0
Words = List Text

-- `help` in front is another spelling of `--help`: `help run` is `run --help`
abbrev pub spelled_out : Words → Words
spelled_out [] = []
spelled_out (word ∷ rest) = if bytes_eq word (codes "help") then take 1 rest ++ codes "--help" ∷ [] else word ∷ rest

-- the faults that clap finds in the words
abbrev pub faults_of : Words → Kinds
faults_of words = fault_of likes_app (spelled_out words)

-- the subcommand that clap enters for the words, with what it finds there
abbrev pub entered_of : Words → Option (Text × List Row)
entered_of words = subcommand_of likes_app (spelled_out words)

-- the words ask for help, or for the program's version
abbrev pub AsksForHelp : Words → Type 0
AsksForHelp words = IsAmong DisplayHelp (faults_of words) ⊎ IsAmong DisplayVersion (faults_of words)

-- what the words ask for: a run or a replay where they have no fault
abbrev pub Asks : Words → Asked → Type 0
Asks words (Help text) = AsksForHelp words
Asks words asked = (faults_of words ≡ []) × MeansAsked (entered_of words) asked

-- a fault that is no request for help or for the version
abbrev pub IsMistake : ErrorKind → Type 0
IsMistake kind = (kind ≢ DisplayHelp) × (kind ≢ DisplayVersion)

-- why the words ask for nothing: they have a mistake, or memory ran out
abbrev pub IsParseFault : Words → ParseFault → Type 0
IsParseFault words (Usage text) = (kind : ErrorKind) × IsAmong kind (faults_of words) × IsMistake kind
IsParseFault words Memory = ⊤
