use Rattle.std.proofs.Common.{◌≡◌, ◌/◌, ◌^◌, ◌<◌, ◌∙◌, subst, arith}
use Rattle.like_tables.specs.Home.{Home, IsAtHome, user_at}
use Rattle.like_tables.proofs.AtHome.{rank-back, rank-there}
use Rattle.like_tables.proofs.home.Home.rank.Goals as goal

pub returns-clause-there : goal.returns-clause-there
returns-clause-there c =
    let user = c.args.user in
    subst (λ (h : Home). IsAtHome h user → c.rotate_right.result ≡ user / h.seats) c.self.view_is
    (λ home. c.rotate_right.ensures
    ∙ rank-there _ c.self.inside.inverse c.self.inside.turn user c.self.invariant (omega (arith, c.ranges.user)) home)

pub returns-clause-back : goal.returns-clause-back
returns-clause-back c =
    let user = c.args.user in
    let rank = c.rotate_right.result in
    subst (λ (h : Home). user_at h rank < 2 ^ 32 → user ≡ user_at h rank) c.self.view_is
    (rank-back _ c.self.inside.inverse c.self.inside.turn user rank c.self.invariant (omega (arith, c.ranges.user))
    c.rotate_right.ensures)
