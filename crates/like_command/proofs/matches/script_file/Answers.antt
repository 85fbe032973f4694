use Rattle.std.proofs.Common.{◌∙◌, sym, ap, Some, codes}
use Rattle.clap.specs.Words.{found_of}
use Rattle.clap.proofs.WalkLemmas.{first_value-rows}
use Rattle.like_command.proofs.matches.script_file.Goals as goal

pub returns-in_ok-from_str-in-Some : goal.returns-in_ok-from_str-in-Some
returns-in_ok-from_str-in-Some c =
    sym (first_value-rows (found_of c.args.matches.now) (codes "script")) ∙ sym c.in-Some.ensures
    ∙ ap Some (sym c.in_ok-from_str-in-Some.ensures.ok)

pub returns-in-None : goal.returns-in-None
returns-in-None c = sym (first_value-rows (found_of c.args.matches.now) (codes "script")) ∙ sym c.in-None.ensures
