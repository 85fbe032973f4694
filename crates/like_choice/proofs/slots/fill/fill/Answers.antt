use Rattle.std.proofs.Common.{arith}
use Rattle.std.proofs.lemmas.List.{take_more}
use Rattle.like_choice.proofs.Filling.{Fills-more}
use Rattle.like_choice.proofs.slots.fill.fill.Goals as goal

pub loop-page-preserved : goal.loop-page-preserved
loop-page-preserved c =
    let at = c.loop-page.page-index in
    rw (take_more c.args.proposed.now at 0 (omega (arith, c.loop-page-test.true)))
    (Fills-more _ _ _ _ _ _ _ _ _ _ c.loop-page.invariant c.put-bits.ensures)
