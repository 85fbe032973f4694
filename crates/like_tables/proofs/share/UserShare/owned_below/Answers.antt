use Rattle.std.proofs.Common.{arith}
use Rattle.like_tables.proofs.Homes.{read-rank, read-rounds-le}
use Rattle.like_tables.proofs.Owned.{owned_below-le}
use Rattle.like_tables.proofs.share.UserShare.owned_below.Goals as goal

pub overflow_mul-result : goal.overflow_mul-result
overflow_mul-result c =
    let le = read-rounds-le _ _ c.args.user _ c.self.invariant c.index.ensures in
    omega arith

pub overflow_add-result : goal.overflow_add-result
overflow_add-result c =
    let rank = rw c.self.view_is at
    (read-rank _ _ c.args.user _ _ c.self.invariant c.index.ensures c.index-2.ensures) in
    omega (arith, rank, owned_below-le c.args.self.now c.args.user)

pub returns : goal.returns
returns c =
    rw (← c.self.view_is) (read-rank _ _ c.args.user _ _ c.self.invariant c.index.ensures c.index-2.ensures)
