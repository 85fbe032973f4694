use Rattle.std.proofs.Common.{◌∙◌, sym}
use Rattle.like_tables.proofs.Ranks.{last_of-table_of, owns-inside, rank-lt}
use Rattle.like_tables.proofs.users.Users.give_to.Goals as goal

pub returns-clause-own : goal.returns-clause-own
returns-clause-own c user owned =
    let i = c.self.inside in
    let mine = owns-inside i.share i.pages.items _ user c.self.view_is owned in
    let lt = rank-lt i.share i.pages.items user c.self.invariant mine in
    let given = rw c.deref.ensures.value at c.give.ensures in
    rw (← c.self.view_is) (given.own user mine lt ∙ sym (last_of-table_of i.share i.pages.items user))

pub returns-clause-others : goal.returns-clause-others
returns-clause-others c user other =
    let elsewhere = rw (← c.self.view_is) at other in
    c.give.ensures.others user elsewhere
