use Rattle.std.proofs.Common.{Some, codes, true}
use Rattle.clap.specs.Words.{Rule, new_rule}
use Rattle.clap.specs.declared.builder.action.ArgAction.TheVariants.{Set}
use Rattle.like_command.proofs.Commands.{acting, helped, needed, valued}
use Rattle.like_command.proofs.command.pages_argument.Goals as goal

abbrev rule0 : Rule
rule0 = new_rule (codes "pages")

abbrev rule1 : Rule
rule1 = record rule0 { value_names = 1 }

abbrev rule2 : Rule
rule2 = record rule1 { required = true }

abbrev rule3 : Rule
rule3 = record rule2 { action = Some Set }

pub returns : goal.returns
returns c =
    helped c.action.result c.help.result rule3 _ c.help.ensures
    (acting c.required.result c.action.result rule2 _ c.action.ensures
    (needed c.value_name.result c.required.result rule1 c.required.ensures
    (valued c.new.result c.value_name.result rule0 _ c.value_name.ensures
    (record { rule_is = c.new.ensures.rule; local = c.new.ensures.optional.1 }))))
