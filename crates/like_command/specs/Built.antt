-- What the command line is built of: arguments, and commands that have them.
use Rattle.std.specs.Prelude.{◌≡◌, false}
use Rattle.clap.specs.Words.{App, Rule, Shape, app_of, rule_of, shape_of}
use Rattle.clap.specs.declared.builder.{arg.Arg.Arg, command.Command.Command, command.Command.TheViews.out-Command}

-- an argument with this rule, which isn't global
pub record IsArgument (rule : Rule) (a : Arg) : Type 0 where
  pub rule_is : rule_of a ≡ rule
  pub local : a.global ≡ false

-- a command that reads words so, with no global arguments
pub record IsCommand (app : App) (c : Command) : Type 0 where
  pub app_is : app_of c ≡ app
  pub local : (out-Command c).has_globals ≡ false

-- a command without subcommands that reads words so, with no global arguments
pub record IsSubcommand (shape : Shape) (c : Command) : Type 0 where
  pub shape_is : shape_of c ≡ shape
  pub local : (out-Command c).has_globals ≡ false
