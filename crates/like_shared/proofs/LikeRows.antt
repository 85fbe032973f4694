-- What a row of likes is told.
use Rattle.std.proofs.Common.{◌≡◌, ℕ, ◌≤◌, List, length, ap}
use Rattle.like_live.specs.declared.answer.LikeAnswer.{LikeAnswer}
use Rattle.like_live.specs.declared.answer.TurnAnswer.TheVariants.{Runs}
use Rattle.like_live.specs.declared.like_pair.LikePair.{LikePair}
use Rattle.like_live.specs.declared.like_pair.RowAnswer.{RowAnswer}
use Rattle.like_live.specs.Calls as calls
use Rattle.like_live.specs.Calls.{LikesNow}
use Rattle.like_live.specs.LikeRow.{RowCase, all, between, gone, runs, stops, turn_of}
use Rattle.like_live.specs.LiveView.{LiveView}
use Rattle.like_shared.specs.Rows.{IsToldOf}

-- a seat that runs a phase tells a like what a turn would be told
turn-runs : (v after : LiveView) (user page : ℕ) (answer : LikeAnswer) → LikesNow v user page answer after
    → turn_of answer ≡ Runs
turn-runs v after user page answer (calls.refused fails is same) = ap turn_of is
turn-runs v after user page answer (calls.full accepted most is same) = ap turn_of is
turn-runs v after user page answer (calls.liked old s accepted few is counts same) = ap turn_of is

-- what a row is told
pub told-of : (v after : LiveView) (likes : List LikePair) (told : RowAnswer) → told.counted ≤ length likes
    → RowCase v likes told after → IsToldOf likes told
told-of v after likes told few (gone moves is) = record {
  few = few;
  all = λ liked. absurd (cc (liked, ap (λ (r : RowAnswer). r.answer) is));
  none = λ off. ap (λ (r : RowAnswer). r.counted) is;
}
told-of v after likes told few (between moves is) = record {
  few = few;
  all = λ liked. absurd (cc (liked, ap (λ (r : RowAnswer). r.answer) is));
  none = λ off. ap (λ (r : RowAnswer). r.counted) is;
}
told-of v after likes told few (runs now moves (all counts is)) = record {
  few = few;
  all = λ liked. ap (λ (r : RowAnswer). r.counted) is;
  none = λ off. absurd (off (ap (λ (r : RowAnswer). turn_of r.answer) is));
}
told-of v after likes told few (runs now moves (stops end p counts at like not)) = record {
  few = few;
  all = λ liked. absurd (not liked);
  none = λ off. absurd (off (turn-runs end after p.user p.page told.answer like));
}
