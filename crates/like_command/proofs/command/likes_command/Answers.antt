use Rattle.std.proofs.Common.{[], ◌∷◌, true}
use Rattle.std.proofs.lemmas.Result.{IfOk-weaker}
use Rattle.clap.specs.Words.{App}
use Rattle.like_command.specs.CommandLine.{likes_app, replay_command, run_command}
use Rattle.like_command.proofs.Commands.{all_subs_added}
use Rattle.like_command.proofs.command.likes_command.Goals as goal

-- the program's command line without its subcommands
abbrev app0 : App
app0 = record { top = record likes_app.top { is_leaf = true }; subs = [] }

pub returns : goal.returns
returns c =
    IfOk-weaker c.subcommands-2.result _ _
    (λ x h. all_subs_added c.in_ok-program.field-0 x (run_command ∷ replay_command ∷ [])
    c.in_ok-subcommands.field-0.items app0 h c.in_ok-subcommands.ensures c.in_ok-program.ensures) c.subcommands-2.ensures
