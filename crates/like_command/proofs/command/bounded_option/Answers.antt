use Rattle.std.proofs.Common.{◌≡◌, ℕ, ◌∙◌, Some, ap, pos, rules}
use Rattle.clap.specs.Words.{Rule, Text, new_rule}
use Rattle.clap.specs.declared.builder.action.ArgAction.TheVariants.{Set}
use Rattle.clap.specs.declared.builder.value_parser.ValueParser.TheVariants as vp
use Rattle.like_command.proofs.Commands.{acting, helped, parsing, spelled, valued}
use Rattle.like_command.proofs.command.bounded_option.Goals as goal

abbrev rule0 : Text → Rule
rule0 name = new_rule name

abbrev rule1 : Text → Rule
rule1 name = record (rule0 name) { long = Some name }

abbrev rule2 : Text → Rule
rule2 name = record (rule1 name) { value_names = 1 }

abbrev rule3 : Text → Rule
rule3 name = record (rule2 name) { action = Some Set }

abbrev rule4 : Text → ℕ → ℕ → Rule
rule4 name least most = record (rule3 name) { parser = Some (vp.Signed (pos least) (pos most)) }

pub returns : goal.returns
returns c =
    let name : Text = c.args.name.now in
    let made : c.signed.result ≡ vp.Signed (pos c.args.least) (pos c.args.most) = search rules in
    let given = c.value_parser.ensures.given in
    helped c.value_parser.result c.help.result (rule4 name c.args.least c.args.most) _ c.help.ensures
    (parsing c.action.result c.value_parser.result (rule3 name)
    (vp.Signed (pos c.args.least) (pos c.args.most)) c.value_parser.ensures.others
    (given.1 ∙ ap Some (given.2 ∙ made))
    (acting c.value_name.result c.action.result (rule2 name) _ c.action.ensures
    (valued c.long.result c.value_name.result (rule1 name) _ c.value_name.ensures
    (spelled c.new.result c.long.result (rule0 name) _ c.long.ensures
    (record { rule_is = c.new.ensures.rule; local = c.new.ensures.optional.1 })))))
