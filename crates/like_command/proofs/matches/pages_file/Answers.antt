use Rattle.std.proofs.Common.{◌∙◌, sym, ap, Some, codes}
use Rattle.std.proofs.lemmas.Option.{none-some}
use Rattle.std.proofs.lemmas.Result.{IfOk-weaker}
use Rattle.clap.specs.Words.{found_of}
use Rattle.clap.proofs.WalkLemmas.{first_value-rows}
use Rattle.like_command.proofs.matches.pages_file.Goals as goal

pub unreachable-requires : goal.unreachable-requires
unreachable-requires c =
    none-some c.requires.0
    (c.in-None.ensures ∙ first_value-rows (found_of c.args.matches.now) (codes "pages") ∙ c.requires.1)

pub returns : goal.returns
returns c = IfOk-weaker c.from_str.result _ _
    (λ s h. sym (first_value-rows (found_of c.args.matches.now) (codes "pages")) ∙ sym c.in-Some.ensures
    ∙ ap Some (sym h)) c.from_str.ensures.ok
