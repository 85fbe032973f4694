use Rattle.std.proofs.Common.{◌≡◌, ◌∙◌, [], ◌∷◌, ◌++◌, List, ap, codes, rules, subst, sym}
use Rattle.std.specs.List.{AllZip, fold}
use Rattle.clap.specs.Words.{Rule, new_app, with_rule}
use Rattle.clap.specs.declared.builder.command.Command.{Command}
use Rattle.like_command.specs.Built.{IsSubcommand}
use Rattle.like_command.specs.CommandLine.{files_rules, option_rules, replay_command, run_command, text_rule}
use Rattle.like_command.proofs.Commands.{subcommand}
use Rattle.like_command.proofs.command.subcommands.Goals as goal

abbrev run_rules : List Rule
run_rules = option_rules ++ files_rules

abbrev replay_rules : List Rule
replay_rules = option_rules ++ text_rule (codes "script") ∷ files_rules

pub returns : goal.returns
returns c =
    let run = c.in_ok-add_subcommand.ensures run_rules
    (c.in_ok-run_arguments.ensures files_rules c.in_ok-run_files.ensures) in
    let replay = c.in_ok-add_subcommand-2.ensures replay_rules
    (c.in_ok-replay_arguments.ensures (text_rule (codes "script") ∷ files_rules) c.in_ok-replay_files.ensures) in
    let none : c.new-list.result.items ≡ [] = search rules in
    let one = run.1 ∙ ap (λ (list : List Command). list ++ run.0 ∷ []) none in
    let both = replay.1 ∙ ap (λ (list : List Command). list ++ replay.0 ∷ []) one in
    subst (AllZip IsSubcommand (run_command ∷ replay_command ∷ [])) (sym both) (
      subcommand run.0 (fold with_rule (new_app (codes "run")) run_rules) run.2,
      (subcommand replay.0 (fold with_rule (new_app (codes "replay")) replay_rules) replay.2, tt),
    )
