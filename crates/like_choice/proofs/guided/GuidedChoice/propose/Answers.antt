use Rattle.std.proofs.Common.{take, ap, ◌∙◌}
use Rattle.std.proofs.lemmas.List.{take_all}
use Rattle.like_choice.proofs.guided.GuidedChoice.propose.Goals as goal

pub returns-else-is_empty-clause-told : goal.returns-else-is_empty-clause-told
returns-else-is_empty-clause-told c some =
    let pages = c.pages-else-is_empty.ensures in
    c.copy_from.ensures ∙ ap (take 64) pages.pages ∙ take_all 64 _ pages.few
