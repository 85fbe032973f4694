use Rattle.std.proofs.Common.{rules}
use Rattle.like_tables.specs.Share.{share_of}
use Rattle.like_tables.proofs.Ranks.{table_of-replicate}
use Rattle.like_tables.proofs.users.Users.new.Goals as goal

pub returns : goal.returns
returns c =
    let e = c.in_ok-vec.ensures.items_if_clones_equal (λ y same. search rules) in
    rw (e, c.none.ensures, c.owned_below-ranks.ensures, c.in_ok-share.ensures)
    (table_of-replicate (share_of c.args.users c.args.submitters c.args.workers c.args.worker))
