use Rattle.std.proofs.Common.{[], ◌∷◌}
use Rattle.like_command.specs.CommandLine.{bounded_rule}
use Rattle.like_command.proofs.Commands.{defaulted, lettered}
use Rattle.like_command.proofs.command.number_option.Goals as goal

pub returns : goal.returns
returns c =
    lettered c.default_value.result c.short.result
    (record (bounded_rule c.args.name.now c.args.least c.args.most) { defaults = c.args.default.now ∷ [] })
    c.args.letter c.short.ensures
    (defaulted c.bounded_option.result c.default_value.result
    (bounded_rule c.args.name.now c.args.least c.args.most) _ c.default_value.ensures
    c.bounded_option.ensures)
