use Rattle.std.proofs.Common.{sym, ◌∙◌}
use Rattle.told_lock.proofs.Holding.{pass-at}
use Rattle.told_lock.proofs.Views.{holder-is}
use Rattle.told_lock.proofs.laws.holders_see_all.Goals as goal

pub returns : goal.returns
returns g c = λ first f g' x s i j n m seen other taken k here there.
    let does = g.D.Deeds.does in
    let p = pass-at does first s k i n f seen _ here in
    let q = pass-at does first s k j m g' other taken there in
    (q.3.0, sym (p.6 (holder-is k.holder i x k.now p.4).0) ∙ q.3.1)
