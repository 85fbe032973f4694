use Rattle.std.proofs.Common.{◌++◌, length, ap, ◌∙◌}
use Rattle.std.proofs.lemmas.List.{drop-replicate}
use Rattle.like_choice.proofs.slots.pages.marked_first.Goals as goal

pub returns : goal.returns
returns c =
    let marks = c.args.marks.now in
    c.write_first.ensures ∙ ap (λ rest. marks ++ rest) (drop-replicate (length marks) 64 0)
