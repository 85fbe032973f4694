use Rattle.std.proofs.Common.{drop, subst, sym}
use Rattle.std.specs.List.{AllZip}
use Rattle.like_command.specs.Built.{IsArgument}
use Rattle.like_command.specs.CommandLine.{option_rules}
use Rattle.like_command.proofs.command.other_options.Goals as goal

pub returns : goal.returns
returns c =
    subst (AllZip IsArgument (drop 4 option_rules)) (sym c.in_ok-vec.ensures.items)
    (c.bounded_option.ensures, (c.flag.ensures, (c.flag-2.ensures, (c.flag-3.ensures, (c.flag-4.ensures, tt)))))
