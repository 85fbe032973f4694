use Rattle.std.proofs.Common.{◌<◌, ◌^◌, subst, arith}
use Rattle.like_tables.specs.Share.{Share}
use Rattle.like_tables.proofs.Ranking.{ranked-found, ranked-none}
use Rattle.like_tables.proofs.share.UserShare.find.Goals as goal

pub returns-then-rank-many : goal.returns-then-rank-many
returns-then-rank-many c =
    ranked-none c.args.home.now c.args.self.now c.args.user c.rank-rank.result c.requires.home c.rank-rank.ensures.seat
    c.rank-rank.ensures.there (omega (arith, c.requires.many, c.if-rank-many.true))

pub returns : goal.returns
returns c =
    let few = subst (λ (s : Share). s.users < 2 ^ 32) c.self.view_is c.self.invariant.few in
    ranked-found c.args.home.now c.args.self.now c.args.user c.rank-rank.result c.requires.home c.rank-rank.ensures.seat few
    c.rank-rank.ensures.back (omega (arith, c.requires.many, c.if-rank-many.false))
