use Rattle.std.proofs.Common.{◌∙◌, ◌++◌, List, ap, drop, subst, sym}
use Rattle.std.specs.List.{AllZip}
use Rattle.clap.specs.declared.builder.arg.Arg.{Arg}
use Rattle.like_command.specs.Built.{IsArgument}
use Rattle.like_command.specs.CommandLine.{number_rules, option_rules}
use Rattle.like_command.proofs.Commands.{appended}
use Rattle.like_command.proofs.command.with_options.Goals as goal

pub returns : goal.returns
returns c rules files =
    let numbers = c.in_ok-arguments.arguments.items in
    let others = c.in_ok-other_options.field-0.items in
    let options = appended number_rules (drop 4 option_rules) numbers others c.in_ok-arguments.ensures
    c.in_ok-other_options.ensures in
    let all = c.in_ok-append-2.ensures.items ∙ ap (λ (list : List Arg). list ++ c.args.files.items) c.in_ok-append.ensures.items in
    subst (AllZip IsArgument (option_rules ++ rules)) (sym all)
    (appended option_rules rules (numbers ++ others) c.args.files.items options files)
