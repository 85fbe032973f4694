use Rattle.std.proofs.Common.{Some, codes}
use Rattle.clap.specs.Words.{Rule, new_rule}
use Rattle.clap.specs.declared.builder.action.ArgAction.TheVariants.{Set}
use Rattle.like_command.proofs.Commands.{acting, helped, spelled, valued}
use Rattle.like_command.proofs.command.script_option.Goals as goal

abbrev rule0 : Rule
rule0 = new_rule (codes "script")

abbrev rule1 : Rule
rule1 = record rule0 { long = Some (codes "script") }

abbrev rule2 : Rule
rule2 = record rule1 { value_names = 1 }

abbrev rule3 : Rule
rule3 = record rule2 { action = Some Set }

pub returns : goal.returns
returns c =
    helped c.action.result c.help.result rule3 _ c.help.ensures
    (acting c.value_name.result c.action.result rule2 _ c.action.ensures
    (valued c.long.result c.value_name.result rule1 _ c.value_name.ensures
    (spelled c.new.result c.long.result rule0 _ c.long.ensures
    (record { rule_is = c.new.ensures.rule; local = c.new.ensures.optional.1 }))))
