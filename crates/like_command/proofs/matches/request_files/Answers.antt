use Rattle.std.proofs.Common.{◌∙◌, sym, ap, Some, codes}
use Rattle.std.proofs.lemmas.Option.{none-some}
use Rattle.std.proofs.lemmas.Result.{IfOk-weaker}
use Rattle.clap.specs.Words.{found_of}
use Rattle.clap.proofs.WalkLemmas.{raw_values-rows}
use Rattle.like_command.proofs.matches.request_files.Goals as goal

pub unreachable-requires : goal.unreachable-requires
unreachable-requires c =
    none-some c.requires.0
    (c.in-None.ensures ∙ raw_values-rows (found_of c.args.matches.now) (codes "requests") ∙ c.requires.1)

pub returns : goal.returns
returns c =
    IfOk-weaker c.texts.result _ _
    (λ files h. sym (raw_values-rows (found_of c.args.matches.now) (codes "requests")) ∙ sym c.in-Some.ensures
    ∙ ap Some (sym h))
    c.texts.ensures
