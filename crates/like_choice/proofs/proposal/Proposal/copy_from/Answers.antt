use Rattle.std.proofs.Common.{[], ◌∷◌, ◌++◌, take, get_or, sym, ap, ◌∙◌, arith}
use Rattle.std.proofs.lemmas.List.{take_more}
use Rattle.like_choice.proofs.Proposals.{cut-append}
use Rattle.like_choice.proofs.proposal.Proposal.copy_from.Goals as goal

pub loop-page-preserved : goal.loop-page-preserved
loop-page-preserved c =
    let xs = c.args.pages.now in
    let at = c.loop-page.page-index in
    c.push.ensures ∙ ap (λ ys. take 64 (ys ++ get_or xs at 0 ∷ [])) c.loop-page.invariant
    ∙ cut-append 64 (take at xs) (get_or xs at 0 ∷ [])
    ∙ ap (take 64) (sym (take_more xs at 0 (omega (arith, c.loop-page-test.true))))
