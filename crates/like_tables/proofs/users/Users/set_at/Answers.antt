use Rattle.std.proofs.Common.{arith}
use Rattle.like_tables.proofs.Ranks.{table_of-set, last_of-set_same, last_of-set_other, rank-lt, ranked-inside}
use Rattle.like_tables.proofs.users.Users.set_at.Goals as goal

pub index_mut-requires : goal.index_mut-requires
index_mut-requires c =
    let i = c.self.inside in
    let p = ranked-inside _ _ _ c.args.ranked c.self.view_is c.requires.ranked in
    let lt = rank-lt i.share i.pages.items c.args.ranked.user c.self.invariant p.owned in
    omega (arith, p.rank_is, lt, i.pages.ok)

pub returns-clause-table : goal.returns-clause-table
returns-clause-table c =
    let p = ranked-inside _ _ _ c.args.ranked c.self.view_is c.requires.ranked in
    rw (p.rank_is, c.of.ensures, ← c.self.view_is)
    (table_of-set _ _ c.args.ranked.user c.args.page c.self.invariant p.owned)

pub returns-clause-user : goal.returns-clause-user
returns-clause-user c =
    let p = ranked-inside _ _ _ c.args.ranked c.self.view_is c.requires.ranked in
    rw (p.rank_is, c.of.ensures)
    (last_of-set_same _ _ c.args.ranked.user c.args.page c.self.invariant p.owned)

pub returns-clause-others : goal.returns-clause-others
returns-clause-others c other apart =
    let p = ranked-inside _ _ _ c.args.ranked c.self.view_is c.requires.ranked in
    rw (p.rank_is, c.of.ensures, ← c.self.view_is)
    (last_of-set_other _ _ c.args.ranked.user other c.args.page p.owned apart)
