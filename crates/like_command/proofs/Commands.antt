-- What clap reads of a command that is built up.
use Rattle.std.specs.Borrow.{Bor}
use Rattle.std.proofs.Common.{◌≡◌, ◌∙◌, ◌||◌, ℕ, List, [], ◌∷◌, ◌++◌, Option, Some, false, true, length, ap, ap₂, subst, sym}
use Rattle.std.specs.List.{AllZip, fold}
use Rattle.clap.specs.Walk.{texts}
use Rattle.clap.specs.Words.{AddsArg, AddsInTurn, AddsSubcommand, App, Rule, Shape, Text, app_of, items_of, rule_of, with_rule, with_subcommand}
use Rattle.clap.specs.declared.builder.action.ArgAction.{ArgAction}
use Rattle.clap.specs.declared.builder.arg.Arg.{Arg}
use Rattle.clap.specs.declared.builder.command.Command.{Command}
use Rattle.clap.specs.declared.builder.texts.Texts.{Texts}
use Rattle.clap.specs.declared.builder.value_parser.ValueParser.{ValueParser}
use Rattle.like_command.specs.Built.{IsArgument, IsCommand, IsSubcommand}

-- each step of building an argument is one field of its rule
pub spelled : (old new : Arg) (r : Rule) (name : Bor Text) → new ≡ record old { long = Some name } → IsArgument r old
    → IsArgument (record r { long = Some name.now }) new
spelled old new r name is was = record {
  rule_is = ap rule_of is ∙ ap (λ (x : Rule). record x { long = Some name.now }) was.rule_is;
  local = ap (λ (a : Arg). a.global) is ∙ was.local;
}

pub valued : (old new : Arg) (r : Rule) (names : Texts) → new ≡ record old { val_names = names } → IsArgument r old
    → IsArgument (record r { value_names = length (items_of names) }) new
valued old new r names is was = record {
  rule_is = ap rule_of is ∙ ap (λ (x : Rule). record x { value_names = length (items_of names) }) was.rule_is;
  local = ap (λ (a : Arg). a.global) is ∙ was.local;
}

pub acting : (old new : Arg) (r : Rule) (action : Option ArgAction)
    → new ≡ record old { action = action }
    → IsArgument r old
    → IsArgument (record r { action = action }) new
acting old new r action is was = record {
  rule_is = ap rule_of is ∙ ap (λ (x : Rule). record x { action = action }) was.rule_is;
  local = ap (λ (a : Arg). a.global) is ∙ was.local;
}

pub parsing : (old new : Arg) (r : Rule) (parser : ValueParser) → new ≡ record old { value_parser = new.value_parser }
    → new.value_parser ≡ Some parser → IsArgument r old → IsArgument (record r { parser = Some parser }) new
parsing old new r parser is given was = record {
  rule_is = ap rule_of is ∙ ap₂ (λ (x : Rule) (p : Option ValueParser). record x { parser = p }) was.rule_is given;
  local = ap (λ (a : Arg). a.global) is ∙ was.local;
}

pub needed : (old new : Arg) (r : Rule)
    → new ≡ record old { required = true }
    → IsArgument r old
    → IsArgument (record r { required = true }) new
needed old new r is was = record {
  rule_is = ap rule_of is ∙ ap (λ (x : Rule). record x { required = true }) was.rule_is;
  local = ap (λ (a : Arg). a.global) is ∙ was.local;
}

pub defaulted : (old new : Arg) (r : Rule) (values : Texts)
    → new ≡ record old { default_vals = values }
    → IsArgument r old
    → IsArgument (record r { defaults = texts (items_of values) }) new
defaulted old new r values is was = record {
  rule_is = ap rule_of is ∙ ap (λ (x : Rule). record x { defaults = texts (items_of values) }) was.rule_is;
  local = ap (λ (a : Arg). a.global) is ∙ was.local;
}

pub lettered : (old new : Arg) (r : Rule) (letter : ℕ)
    → new ≡ record old { short = Some letter }
    → IsArgument r old
    → IsArgument (record r { short = Some letter }) new
lettered old new r letter is was = record {
  rule_is = ap rule_of is ∙ ap (λ (x : Rule). record x { short = Some letter }) was.rule_is;
  local = ap (λ (a : Arg). a.global) is ∙ was.local;
}

-- what is said of an argument in its help changes nothing else of it
pub helped : (old new : Arg) (r : Rule) (text : Option (Bor Text))
    → new ≡ record old { help = text }
    → IsArgument r old
    → IsArgument r new
helped old new r text is was =
    record { rule_is = ap rule_of is ∙ was.rule_is; local = ap (λ (a : Arg). a.global) is ∙ was.local }

-- one more argument is one more rule
pub added : (old new : Command) (a : Arg) (r : Rule) (s : App)
    → AddsArg old a new
    → IsArgument r a
    → IsCommand s old
    → IsCommand (with_rule s r) new
added old new a r s h argument was = record {
  app_is = h.shape argument.local ∙ ap₂ with_rule was.app_is argument.rule_is;
  local = h.globals ∙ (ap (λ b. b || a.global) was.local ∙ ap (λ b. false || b) argument.local);
}

-- what a command reads without subcommands
pub subcommand : (c : Command) (s : App) → IsCommand s c → IsSubcommand s.top c
subcommand c s is = record { shape_is = ap (λ (a : App). a.top) is.app_is; local = is.local }

-- one more subcommand
pub sub_added : (old sub new : Command) (shape : Shape) (s : App)
    → AddsSubcommand old sub new
    → IsSubcommand shape sub
    → app_of old ≡ s
    → app_of new ≡ with_subcommand s shape
sub_added old sub new shape s h is was = h.shape is.local ∙ ap₂ with_subcommand was is.shape_is

-- more arguments in turn
pub all_added : (old new : Command) (rules : List Rule) (list : List Arg) (s : App)
    → AddsInTurn AddsArg old list new
    → AllZip IsArgument rules list
    → IsCommand s old
    → IsCommand (fold with_rule s rules) new
all_added old new [] [] s h arguments was = subst (IsCommand s) h was
all_added old new [] (a ∷ list) s h arguments was = absurd arguments
all_added old new (r ∷ rules) [] s h arguments was = absurd arguments
all_added old new (r ∷ rules) (a ∷ list) s h arguments was =
    all_added h.0 new rules list (with_rule s r) h.2 arguments.1 (added old h.0 a r s h.1 arguments.0 was)

-- one list of arguments after another
pub appended : (rules more : List Rule) (list others : List Arg)
    → AllZip IsArgument rules list
    → AllZip IsArgument more others
    → AllZip IsArgument (rules ++ more) (list ++ others)
appended [] more [] others h after = after
appended [] more (a ∷ list) others h after = absurd h
appended (r ∷ rules) more [] others h after = absurd h
appended (r ∷ rules) more (a ∷ list) others h after = (h.0, appended rules more list others h.1 after)

-- more subcommands in turn
pub all_subs_added : (old new : Command) (shapes : List Shape) (list : List Command) (s : App)
    → AddsInTurn AddsSubcommand old list new
    → AllZip IsSubcommand shapes list
    → app_of old ≡ s
    → app_of new ≡ fold with_subcommand s shapes
all_subs_added old new [] [] s h subs was = ap app_of (sym h) ∙ was
all_subs_added old new [] (c ∷ list) s h subs was = absurd subs
all_subs_added old new (shape ∷ shapes) [] s h subs was = absurd subs
all_subs_added old new (shape ∷ shapes) (c ∷ list) s h subs was =
    all_subs_added h.0 new shapes list (with_subcommand s shape) h.2 subs.1
    (sub_added old c h.0 shape s h.1 subs.0 was)
