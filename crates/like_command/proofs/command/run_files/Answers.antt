use Rattle.std.proofs.Common.{subst, sym}
use Rattle.std.specs.List.{AllZip}
use Rattle.like_command.specs.Built.{IsArgument}
use Rattle.like_command.specs.CommandLine.{files_rules}
use Rattle.like_command.proofs.command.run_files.Goals as goal

pub returns : goal.returns
returns c =
    subst (AllZip IsArgument files_rules) (sym c.in_ok-vec.ensures.items)
    (c.pages_argument.ensures, (c.requests_argument.ensures, tt))
