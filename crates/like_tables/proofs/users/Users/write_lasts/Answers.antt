use Rattle.std.proofs.Common.{◌+◌, ◌<◌, length, None, ap, ◌∙◌, subst, arith}
use Rattle.std.proofs.lemmas.List.{get_or_read}
use Rattle.like_tables.specs.LastLike.{page_or_none}
use Rattle.like_tables.specs.Ranks.{AreLastsFrom}
use Rattle.like_tables.specs.UserTable.{UserTable}
use Rattle.like_tables.proofs.Ranks.{IsUserTable-table_of}
use Rattle.like_tables.proofs.Rows.{AreWritten, written-lasts, written-more, written-none}
use Rattle.like_tables.proofs.users.Users.write_lasts.Goals as goal

-- there is such a place
rank-inside : (c : goal.After-number) → c.args.from + c.loop-rank.rank < length c.self.inside.pages.items
rank-inside c =
    let room = ap (λ (t : UserTable). t.room) c.self.view_is in
    omega (arith, c.requires, c.loop-rank-test.true, room)

pub loop-rank-init : goal.loop-rank-init
loop-rank-init c = written-none c.self.inside.pages.items c.args.from c.args.row.now

pub loop-rank-preserved : goal.loop-rank-preserved
loop-rank-preserved c =
    let pages = c.self.inside.pages.items in
    let l = c.loop-rank in
    written-more pages c.args.from l.row l.rank c.number.result (omega (arith, c.loop-rank-test.true, l.auto.row))
    (c.number.ensures
    ∙ ap page_or_none (get_or_read pages (c.args.from + l.rank) c.index.result.now (rank-inside c) c.index.ensures None))
    l.invariant

pub returns-clause-lasts : goal.returns-clause-lasts
returns-clause-lasts c =
    let i = c.self.inside in
    let l = c.loop-rank in
    subst (λ (t : UserTable). AreLastsFrom t c.args.from l.row) c.self.view_is
    (written-lasts i.share i.pages.items c.args.from l.row
    (subst (AreWritten i.pages.items c.args.from l.row) (omega (arith, c.loop-rank-test.false, l.auto.row)) l.invariant))

pub returns-clause-table : goal.returns-clause-table
returns-clause-table c = rw (← c.self.view_is) (IsUserTable-table_of _ _ c.self.invariant)
