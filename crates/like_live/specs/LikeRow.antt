-- A row of likes, as one call.
use Rattle.std.specs.Prelude.{◌≡◌, ◌≢◌, List, [], ◌∷◌, length, map, slice_get, take, Some}
use Rattle.like_live.specs.History.{HasDone, Told, like_on, turn}
use Rattle.like_live.specs.{Calls.LikesNow, LiveView.LiveView, Moves.Moves, Types.LikeAnswer, Types.LikeAnswer as liked}
use Rattle.like_live.specs.{Types.LikePair, Types.RowAnswer, Types.TurnAnswer, Types.TurnAnswer as turned}

-- likes are counted, one after the other
abbrev pub CountsAll : LiveView → List LikePair → LiveView → Type 0
CountsAll v [] after = after ≡ v
CountsAll v (p ∷ likes) after =
    (now : LiveView) × LikesNow v p.user p.page liked.Liked now × CountsAll now likes after

-- what a row of likes does at a seat that runs a phase: all likes are counted; or all before the first that is refused or
-- too many, and what that one is told
pub data LikesAll (v : LiveView) (likes : List LikePair) (told : RowAnswer) (after : LiveView) : Type 0 where
  all : CountsAll v likes after → told ≡ record { counted = length likes; answer = liked.Liked }
      → LikesAll v likes told after
  stops : (now : LiveView) (p : LikePair) → CountsAll v (take told.counted likes) now
      → slice_get likes told.counted ≡ Some p → LikesNow now p.user p.page told.answer after
      → told.answer ≢ liked.Liked → LikesAll v likes told after

-- row case: how many likes were counted, what the next one is told, and the seat after; the phase work comes first, with
-- the row's only look at the phase word
pub data RowCase (v : LiveView) (likes : List LikePair) (told : RowAnswer) (after : LiveView) : Type 0 where
  gone : Moves v turned.Gone after → told ≡ record { counted = 0; answer = liked.Gone } → RowCase v likes told after
  between : Moves v turned.Between after → told ≡ record { counted = 0; answer = liked.Between }
      → RowCase v likes told after
  runs : (now : LiveView) → Moves v turned.Runs now → LikesAll now likes told after → RowCase v likes told after

-- what a turn would have been told
abbrev pub turn_of : LikeAnswer → TurnAnswer
turn_of liked.Gone = turned.Gone
turn_of liked.Between = turned.Between
turn_of answer = turned.Runs

-- a row as calls: a turn, and then the likes that were counted
abbrev pub row_calls : List LikePair → RowAnswer → List Told
row_calls likes told =
    turn (turn_of told.answer) ∷ map (λ p. like_on p.user p.page liked.Liked) (take told.counted likes)

-- the law of rows: a row does what these calls do
abbrev pub RowsAreLikes : Type 0
RowsAreLikes =
    (v after : LiveView) (likes : List LikePair) (told : RowAnswer)
    → RowCase v likes told after → HasDone v (row_calls likes told) after
