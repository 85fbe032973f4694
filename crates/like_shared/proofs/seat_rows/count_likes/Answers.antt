use Rattle.std.proofs.Common.{refl}
use Rattle.like_shared.proofs.LikeRows.{told-of}
use Rattle.like_shared.proofs.seat_rows.count_likes.Goals as goal

pub returns-clause-run : goal.returns-clause-run
returns-clause-run c = (c.like_row.new.self, (c.like_row.ensures.case, c.like_row.ensures.same), refl)

pub returns-clause-told : goal.returns-clause-told
returns-clause-told c =
    told-of _ _ c.args.likes.now c.like_row.result c.like_row.ensures.few c.like_row.ensures.case
