use Rattle.std.proofs.Common.{ap, ◌∙◌}
use Rattle.like_tables.specs.Share.{share_of}
use Rattle.like_tables.specs.UserTable.{table_with_lasts}
use Rattle.like_live.proofs.service.parts.seat_parts.Goals as goal

pub returns-clause-users : goal.returns-clause-users
returns-clause-users c =
    let o = c.args.opening.now in
    c.in_ok-last.ensures
    ∙ ap (λ xs. table_with_lasts (share_of o.users o.seats o.seats c.args.number) xs) c.deref.ensures.value
