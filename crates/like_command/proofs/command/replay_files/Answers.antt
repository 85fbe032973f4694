use Rattle.std.proofs.Common.{◌∷◌, codes, subst, sym}
use Rattle.std.specs.List.{AllZip}
use Rattle.like_command.specs.Built.{IsArgument}
use Rattle.like_command.specs.CommandLine.{files_rules, text_rule}
use Rattle.like_command.proofs.command.replay_files.Goals as goal

pub returns : goal.returns
returns c =
    subst (AllZip IsArgument (text_rule (codes "script") ∷ files_rules)) (sym c.in_ok-vec.ensures.items)
    (c.script_option.ensures, (c.pages_argument.ensures, (c.requests_argument.ensures, tt)))
