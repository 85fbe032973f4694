use Rattle.std.proofs.Common.{take, ap, ◌∙◌}
use Rattle.std.proofs.lemmas.List.{take_all}
use Rattle.like_choice.proofs.proposed.ProposedChoice.propose.Goals as goal

pub returns-clause-proposes : goal.returns-clause-proposes
returns-clause-proposes c =
    rw (← c.self.view_is)
    (c.copy_from.ensures ∙ ap (take 64) c.pages.ensures.pages ∙ take_all 64 _ c.pages.ensures.few)
