use Rattle.std.proofs.Common.{subst, sym}
use Rattle.std.specs.List.{AllZip}
use Rattle.like_command.specs.Built.{IsArgument}
use Rattle.like_command.specs.CommandLine.{number_rules}
use Rattle.like_command.proofs.command.number_options.Goals as goal

pub returns : goal.returns
returns c =
    subst (AllZip IsArgument number_rules) (sym c.in_ok-vec.ensures.items)
    (c.number_option.ensures, (c.number_option-2.ensures, (c.number_option-3.ensures, (c.number_option-4.ensures, tt))))
