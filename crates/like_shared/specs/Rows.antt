-- The deeds of rows of calls, and of rows of likes.
use Rattle.std.specs.Prelude.{◌≡◌, ◌≢◌, ℕ, ◌+◌, ◌<◌, ◌≤◌, List, [], ◌∷◌, flat_map, length, slice_get, take, Result, Ok, Err, Some, zip}
use Rattle.like_live.specs.Types.{Answer, Answer as answer, Call, Call as call, LikePair, Liked, RowAnswer}
use Rattle.like_live.specs.{Batch.IsPutOff, LikeRow.turn_of, declared.answer.TurnAnswer.TheVariants.Runs}
use Rattle.like_shared.specs.declared.deed.SeatDeed.{SeatDeed, SeatDeed as deed}

-- the deed of a row's call with its answer; with one to another call there is none
abbrev pub deeds_of_call : Call → Answer → List SeatDeed
deeds_of_call (call.Like user page) (answer.Like a) = deed.Like user page a ∷ []
deeds_of_call (call.Look user page tag) (answer.Look a) = deed.Look user page tag a ∷ []
deeds_of_call (call.Glance user page) (answer.Glance a) = deed.Glance user page a ∷ []
deeds_of_call c a = []

-- the deeds of rows, so many of which were done: these, and that of the row whose call must be made again, if there is
-- one
abbrev pub row_deeds : {R T : Type 0} → (R → T → List SeatDeed) → List R → List T → ℕ → List SeatDeed
row_deeds deeds_of rows answers done = flat_map (λ r. deeds_of r.0 r.1) (take (done + 1) (zip rows answers))

-- the answer is one to this call
abbrev pub IsAnswerTo : Call → Answer → Type 0
IsAnswerTo c a = deeds_of_call c a ≢ []

-- a row is done: it was told an answer to its call, which needn't be made again, or that it asks for none
abbrev pub IsRowDone : {T : Type 0} → (Answer → T) → Result Call T → T → Type 0
IsRowDone tells (Ok c) told = (a : Answer) × IsAnswerTo c a × (¬ IsPutOff a) × (told ≡ tells a)
IsRowDone tells (Err none) told = told ≡ none

-- a row is put off: it was told an answer to its call, which must be made again
abbrev pub IsRowPutOff : {T : Type 0} → (Answer → T) → Result Call T → T → Type 0
IsRowPutOff tells (Ok c) told = (a : Answer) × IsAnswerTo c a × IsPutOff a × (told ≡ tells a)
IsRowPutOff tells (Err none) told = ⊥

-- so many rows were done. The next one was put off, if there is one with a place for its answer. Later answers are as
-- they were, and so are those that have no row
pub record AreAnswered {R T : Type 0} (asks : R → Result Call T) (tells : Answer → T) (rows : List R)
    (old answers : List T) (done : ℕ) : Type 0 where
  pub rows_few : done ≤ length rows
  pub answers_few : done ≤ length answers
  pub len : length answers ≡ length old
  pub made : (i : ℕ) (row : R) (told : T) → i < done → slice_get rows i ≡ Some row
      → slice_get answers i ≡ Some told → IsRowDone tells (asks row) told
  pub next : (row : R) (told : T) → slice_get rows done ≡ Some row → slice_get answers done ≡ Some told
      → IsRowPutOff tells (asks row) told
  pub later : (i : ℕ) → done < i → slice_get answers i ≡ slice_get old i
  pub unasked : (i : ℕ) → length rows ≤ i → slice_get answers i ≡ slice_get old i

-- what a row of likes is told: how many were counted, which are all if it says `Liked`, and none if the seat runs no
-- phase
pub record IsToldOf (likes : List LikePair) (told : RowAnswer) : Type 0 where
  pub few : told.counted ≤ length likes
  pub all : told.answer ≡ Liked → told.counted ≡ length likes
  pub none : turn_of told.answer ≢ Runs → told.counted ≡ 0
