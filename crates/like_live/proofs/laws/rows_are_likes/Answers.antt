use Rattle.like_live.proofs.LikeRows.{rows_are_likes}
use Rattle.like_live.proofs.laws.rows_are_likes.Goals as goal

pub returns : goal.returns
returns c = rows_are_likes
