use Rattle.std.proofs.Common.{Some}
use Rattle.clap.specs.Words.{Rule, Text, new_rule}
use Rattle.clap.specs.declared.builder.action.ArgAction.TheVariants.{SetTrue}
use Rattle.like_command.proofs.Commands.{acting, helped, spelled}
use Rattle.like_command.proofs.command.flag.Goals as goal

abbrev rule0 : Text → Rule
rule0 name = new_rule name

abbrev rule1 : Text → Rule
rule1 name = record (rule0 name) { long = Some name }

abbrev rule2 : Text → Rule
rule2 name = record (rule1 name) { action = Some SetTrue }

pub returns : goal.returns
returns c =
    let name : Text = c.args.name.now in
    helped c.action.result c.help.result (rule2 name) _ c.help.ensures
    (acting c.long.result c.action.result (rule1 name) (Some SetTrue) c.action.ensures
    (spelled c.new.result c.long.result (rule0 name) _ c.long.ensures
    (record { rule_is = c.new.ensures.rule; local = c.new.ensures.optional.1 })))
