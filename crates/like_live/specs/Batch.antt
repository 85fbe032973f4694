-- A batch of rows, each of which asks for a call and has a place for its answer.
use Rattle.std.specs.Prelude.{◌≡◌, ◌≢◌, ◌⊎◌, ◌↔◌, ℕ, Bool, false, true, IsTrue, List, [], ◌∷◌, length, min, slice_get, take, Result, Ok, Err, Some, ⊤}
use Rattle.like_tables.specs.LastLike.{no_page}
use Rattle.like_live.specs.Types.{Answer, Answer as answer, Call, Call as call, GlanceAnswer as glanced}
use Rattle.like_live.specs.Types.{LikeAnswer as liked, LookAnswer as looked}
use Rattle.like_live.specs.{History.Does, History.glance, History.like, History.look, LiveView.LiveView}

-- a call is made, as one of a history, and this is its answer
abbrev pub Makes : LiveView → Call → Answer → LiveView → Type 0
Makes v (call.Like user page) (answer.Like a) after = Does v (like user page a) after
Makes v (call.Look user page tag) (answer.Look a) after = Does v (look user page tag a) after
Makes v (call.Glance user page) (answer.Glance a) after = Does v (glance user page a) after
Makes v c a after = ⊥

-- the answer says that the call must be made again
abbrev pub IsPutOff : Answer → Type 0
IsPutOff (answer.Like a) = a ≡ liked.Between
IsPutOff (answer.Look a) = (a ≡ looked.Between) ⊎ (a ≡ looked.NoRoom)
IsPutOff (answer.Glance a) = a ≡ glanced.Between

-- no last like that is told has the number that stands for no page
abbrev pub TellsPage : Answer → Type 0
TellsPage (answer.Look (looked.Seen shown)) = shown.last ≢ Some no_page
TellsPage (answer.Glance (glanced.Seen shown)) = shown.last ≢ Some no_page
TellsPage (answer.Glance (glanced.Glimpsed shown)) = shown.last ≢ Some no_page
TellsPage a = ⊤

-- a row is answered: the call that it asks for is made, and its answer is written; or it asks for none, and is told so;
-- and whether the call must be made again
pub data AnswersRow {R T : Type 0} (asks : R → Result Call T) (tells : Answer → T) (v : LiveView) (row : R) (told : T)
    (put_off : Bool) (after : LiveView) : Type 0 where
  makes_call : (c : Call) (a : Answer) → asks row ≡ Ok c → Makes v c a after → TellsPage a → told ≡ tells a
      → (IsTrue put_off ↔ IsPutOff a) → AnswersRow asks tells v row told put_off after
  has_no_call : asks row ≡ Err told → put_off ≡ false → after ≡ v → AnswersRow asks tells v row told put_off after

-- rows are answered one by one, and no call must be made again
abbrev pub AnswersRows :
    {R T : Type 0} → (R → Result Call T) → (Answer → T) → LiveView → List R → List T → LiveView → Type 0
AnswersRows asks tells v [] [] after = after ≡ v
AnswersRows asks tells v (row ∷ rows) (told ∷ answers) after =
    (now : LiveView) × (AnswersRow asks tells v row told false now × AnswersRows asks tells now rows answers after)
AnswersRows asks tells v rows answers after = ⊥

-- a batch is run: all rows are answered, up to the end of the shorter list; or all up to one whose call must be made
-- again, which is told so and not counted
pub data RunCase {R T : Type 0} (asks : R → Result Call T) (tells : Answer → T) (v : LiveView) (rows : List R)
    (answers : List T) (done : ℕ) (after : LiveView) : Type 0 where
  all_rows : done ≡ min (length rows) (length answers)
      → AnswersRows asks tells v (take done rows) (take done answers) after
      → RunCase asks tells v rows answers done after
  stops_at : (now : LiveView) (row : R) (told : T)
      → AnswersRows asks tells v (take done rows) (take done answers) now
      → slice_get rows done ≡ Some row → slice_get answers done ≡ Some told
      → AnswersRow asks tells now row told true after → RunCase asks tells v rows answers done after
