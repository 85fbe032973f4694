use Rattle.std.proofs.Common.{◌∙◌, arith}
use Rattle.like_tables.proofs.Ranks.{last_of-owned, rank-lt, ranked-inside}
use Rattle.like_tables.proofs.users.Users.last_at.Goals as goal

pub index-requires : goal.index-requires
index-requires c =
    let p = ranked-inside _ _ _ c.args.ranked c.self.view_is c.requires in
    let lt = rank-lt _ _ c.args.ranked.user c.self.invariant p.owned in
    omega (arith, p.rank_is, lt, c.self.inside.pages.ok)

pub returns : goal.returns
returns c =
    let p = ranked-inside _ _ _ c.args.ranked c.self.view_is c.requires in
    let lt = rank-lt _ _ c.args.ranked.user c.self.invariant p.owned in
    rw (← c.self.view_is)
    (c.page.ensures
    ∙ last_of-owned _ _ c.args.ranked.user _ _ p.owned p.rank_is (omega (arith, p.rank_is, lt)) c.index.ensures)
